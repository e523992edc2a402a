use Rattle.std.specs.Str.Parse.{ParsesUnsigned, ExplainsUnsignedError, HasUnsignedDigitsIfOk}
use Rattle.std.proofs.Common.{ℕ, ◌∙◌, ap, sym, codes, Option, Some}
use Rattle.clap.specs.Words.{found_of}
use Rattle.command_words.proofs.Getters.{number_read}
use Rattle.command_words.specs.MachineWords.{from_core}
use Rattle.command_words.proofs.swsusp_machine.matched.reading.Goals as goal

pub returns : goal.returns
returns c = λ x e.
    let slots = number_read (λ bs r. ParsesUnsigned 32 10 bs r × ExplainsUnsignedError 10 bs r × HasUnsignedDigitsIfOk bs r) 32 (λ u x g. g.0) (found_of c.args.values.now) (codes "slots") c.get_one-slots.result c.get_one-slots.ensures.none c.get_one-slots.ensures.value in
    ap (λ (o : Option ℕ). Some (from_core o)) (sym slots) ∙ e
