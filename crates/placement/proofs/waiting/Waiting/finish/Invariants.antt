use Rattle.placement.proofs.waiting.Waiting.finish.Given as goal

abbrev pub ghosts-move_pages : goal.ghosts-move_pages
ghosts-move_pages a = record { name = a.blank.name; parts = a.blank.parts }
