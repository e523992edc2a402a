use Rattle.expanded_show.proofs.showing.show_below.Given as goal

abbrev pub ghosts-show_facts : goal.ghosts-show_facts
ghosts-show_facts g a = record { which = a.lent.form.ghost_name; header = a.header.now; blocks = a.blocks.now }
