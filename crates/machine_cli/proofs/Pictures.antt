-- From events whose columns were drawn to what is told of a picture.
use Rattle.std.proofs.Common.{◌≡◌, ◌⊎◌, inl, inr, ◌≤◌, List, length, take, sym, subst, arith}
use Rattle.std.proofs.lemmas.List.{take_all}
use Rattle.definitions.specs.Disk.{HasRisen}
use Rattle.definitions.specs.Streams.{TakesAll, TakesFront}
use Rattle.plain_machine.specs.declared.event.Event.{Event}
use Rattle.plain_machine.specs.declared.reply.Reply.{Reply}
use Rattle.byte_streams.proofs.Taken.{TakesFront-all}
use Rattle.script.specs.Grammar.{ScriptValue}
use Rattle.run_picture.specs.Picture.{picture, pictured}
use Rattle.command_kit.specs.Told.{done}
use Rattle.command_kit.specs.Told.{AreFronts, IsTold, IsTried, sink_note}
use Rattle.command_kit.specs.View.{SinkView, View}
use Rattle.command_kit.specs.declared.status.Status.{Status}
use Rattle.swsusp_cli.specs.Replay.{LieBelow}
use Rattle.swsusp_cli.specs.Outcome.{IsScript}
use Rattle.swsusp_cli.specs.Replay.{AreReplies}
use Rattle.swsusp_cli.proofs.Prints.{fails_early, printed_then, whole_still}
use Rattle.command_core.proofs.Counted.{risen_earlier}
use Rattle.machine_cli.specs.Drawn.{Draws, IsDrawn, cut_off, drawn}

-- All events were played and the picture is whole, and the ends of the texts are printed, or a sink fails there.
pub drawn_whole : (x x' : View) (status : Status) (script : ScriptValue) (mid : SinkView) (replies : List Reply) → IsScript x x' script → LieBelow script.hardware x.disk.blocks → AreReplies x.disk x'.disk script script.events replies →
    TakesAll (picture script.events replies) x.out.taken mid.taken → x.out.faults ≤ mid.faults → IsTold done status mid x'.out x.note x'.note → IsDrawn x x' status
drawn_whole x x' status script mid replies script_is roomy are taken later (inl whole) = drawn script (record {
  script_is = script_is;
  roomy = roomy;
  status_is = whole.status_is;
  draws = (replies, are, printed_then (picture script.events replies) x.out mid x'.out taken whole.out_whole);
  note = whole.note_whole;
})
drawn_whole x x' status script mid replies script_is roomy are taken later (inr short) = by_sink short.fronts where
  all : take (length script.events) script.events ≡ script.events
  all = take_all (length script.events) script.events (omega arith)

  ended : TakesAll (picture script.events replies) x.out.taken x'.out.taken → IsTried sink_note x.note x'.note →
      HasRisen x.out.faults x'.out.faults ⊎ (Draws script x x' × HasRisen x.note.faults x'.note.faults) → IsDrawn x x' status
  ended whole note whose = cut_off script (record {
    script_is = script_is;
    roomy = roomy;
    status_is = short.status_is;
    draws = (
      length script.events,
      replies,
      subst (λ (events : List Event). AreReplies x.disk x'.disk script events replies) (sym all) are,
      subst (λ (events : List Event). TakesFront (pictured (length script.events) events replies) x.out.taken x'.out.taken) (sym all)
          (TakesFront-all (picture script.events replies) x.out.taken x'.out.taken whole),
    );
    whose = whose;
    note = note;
  })

  by_sink : AreFronts done mid x'.out x.note x'.note → IsDrawn x x' status
  by_sink (inl out) =
      ended (whole_still (picture script.events replies) x.out mid x'.out taken out.0) out.1
      (inl (risen_earlier x.out.faults mid.faults x'.out.faults later out.0.risen))
  by_sink (inr note) =
      let printed = printed_then (picture script.events replies) x.out mid x'.out taken note.0 in
      ended printed.whole (inr (fails_early sink_note x.note x'.note note.1)) (inr ((replies, are, printed), note.1.risen))
