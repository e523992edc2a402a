use Rattle.std.proofs.Common.{inl, inr, map, refl, string_bytes}
use Rattle.command_kit.specs.Told.{memory_told, unparsed}
use Rattle.command_kit.specs.AnswerOf.{told_by}
use Rattle.command_kit.specs.View.{View, disk_view, view}
use Rattle.command_kit.specs.declared.status.Status.TheVariants.{Memory}
use Rattle.command_words.specs.Words.{command_of}
use Rattle.command_kit.proofs.Causes.{cause_since}
use Rattle.swsusp_cli.proofs.Causes.{blameless, memory_cause, told_cause}
use Rattle.swsusp_cli.proofs.Drilled.{drill_flushed}
use Rattle.swsusp_cli.proofs.Prints.{exports_flushed, hibernates_flushed, imports_flushed, replay_flushed, resumes_flushed}
use Rattle.swsusp_cli.proofs.Promised.{answer_caused, caused, memory_does, memory_safe, promised, words_caused}
use Rattle.swsusp_cli.proofs.top.run.Goals as goal

pub returns-in-Ok-Inspect : goal.returns-in-Ok-Inspect
returns-in-Ok-Inspect g c = record {
  theorem = promised g.D.Disk _ _ _ _ _ _ _ (rw c.in-Ok-Inspect.field-0-is at c.in-Ok-Inspect.ensures.asks) (
    inl (record {
      answer = told_by c.inspect.result;
      says = c.inspect.ensures.answer;
      told = c.tell.ensures.told;
      content = c.inspect.ensures.content;
      calls = c.inspect.ensures.calls;
      orders = c.inspect.ensures.orders;
    }),
    refl,
  ) (λ tells. tt) (answer_caused _ _ _ c.tell.result (told_by c.inspect.result) c.tell.ensures.told
      (told_cause c.tell.result c.inspect.result.status (λ is. inr (c.tell.ensures.stream is)) c.tell.ensures.status c.inspect.ensures.cause (λ failed. failed)));
}

pub returns-in-Ok-Hibernate : goal.returns-in-Ok-Hibernate
returns-in-Ok-Hibernate g c = record {
  theorem = promised g.D.Disk _ _ _ _ _ _ _ (rw c.in-Ok-Hibernate.field-0-is at c.in-Ok-Hibernate.ensures.asks) c.hibernate_dump.ensures.outcome (λ tells. tt)
      (caused _ _ _ _ c.hibernate_dump.ensures.cause (hibernates_flushed g.D.Disk _ _ _ _ _ _ _ c.hibernate_dump.ensures.outcome));
}

pub returns-in-Ok-Resume : goal.returns-in-Ok-Resume
returns-in-Ok-Resume g c = record {
  theorem = promised g.D.Disk _ _ _ _ _ _ _ (rw c.in-Ok-Resume.field-0-is at c.in-Ok-Resume.ensures.asks) c.resume_dump.ensures.outcome (λ tells. tt)
      (caused _ _ _ _ c.resume_dump.ensures.cause (resumes_flushed g.D.Disk _ _ _ _ _ _ c.resume_dump.ensures.outcome));
}

pub returns-in-Ok-Replay : goal.returns-in-Ok-Replay
returns-in-Ok-Replay g c = record {
  theorem = promised g.D.Disk _ _ _ _ _ _ _ (rw c.in-Ok-Replay.field-0-is at c.in-Ok-Replay.ensures.asks) (c.replay.ensures.outcome, c.replay.ensures.read) (λ tells. tt)
      (caused _ _ _ _ c.replay.ensures.cause (replay_flushed _ _ _ c.replay.ensures.outcome));
}

pub returns-in-Ok-Drill : goal.returns-in-Ok-Drill
returns-in-Ok-Drill g c =
    let outcome = c.drill.ensures.outcome (g.I.Source.remaining c.args.input.now) (g.I.Source.faults c.args.input.now) in
    record {
      theorem = promised g.D.Disk _ _ _ _ _ _ _ (rw c.in-Ok-Drill.field-0-is at c.in-Ok-Drill.ensures.asks) (outcome, refl) (λ tells. tt)
          (caused _ _ _ _ (cause_since c.drill.result (λ outputs. inr outputs) (λ failed. failed) c.drill.ensures.cause) (drill_flushed _ _ _ _ outcome));
    }

pub returns-in-Ok-Export : goal.returns-in-Ok-Export
returns-in-Ok-Export g c =
    let outcome = c.export_dump.ensures.outcome (disk_view g.D.Disk c.args.disk.now) in
    record {
      theorem = promised g.D.Disk _ _ _ _ _ _ _ (rw c.in-Ok-Export.field-0-is at c.in-Ok-Export.ensures.asks) outcome (λ tells. tt)
          (caused _ _ _ _ (cause_since c.export_dump.result (λ streams. streams) (λ (none : ⊥). absurd none) c.export_dump.ensures.cause) (exports_flushed _ _ _ outcome));
    }

pub returns-in-Ok-Import : goal.returns-in-Ok-Import
returns-in-Ok-Import g c = record {
  theorem = promised g.D.Disk _ _ _ _ _ _ _ (rw c.in-Ok-Import.field-0-is at c.in-Ok-Import.ensures.asks) c.import_stream.ensures.outcome c.import_stream.ensures.inside
      (caused _ _ _ _ c.import_stream.ensures.cause (imports_flushed _ _ _ c.import_stream.ensures.outcome));
}

pub returns-in-Err-Words : goal.returns-in-Err-Words
returns-in-Err-Words g c = record {
  theorem = promised g.D.Disk _ _ _ _ _ _ _ (rw c.in-Err-Words.field-0-is at c.in-Err-Words.ensures.refused) (
    inl (record { text = c.as_str.result.now; told = c.refuse.ensures.told; untouched = refl }),
    refl,
  ) (λ tells. tt) (words_caused _ _ c.refuse.result (unparsed c.as_str.result.now) c.refuse.ensures.told c.refuse.ensures.stream c.refuse.ensures.status);
}

pub returns-in-Err-NoMemory : goal.returns-in-Err-NoMemory
returns-in-Err-NoMemory g c =
    let asked = command_of (map string_bytes c.args.words.now) in
    let x : View = view g.I.Source g.O.Sink g.N.Sink g.D.Disk c.args.input.now c.args.out.now c.args.note.now c.args.disk.now in
    let x' : View = view g.I.Source g.O.Sink g.N.Sink g.D.Disk c.args.input.now c.run_out_of_memory.new.out c.run_out_of_memory.new.note c.args.disk.now in
    let ends = c.run_out_of_memory.result in
    record {
      theorem = promised g.D.Disk _ _ _ x x' ends asked refl (memory_does g.D.Disk c.args.disk.now x x' ends c.run_out_of_memory.ensures.told refl refl asked)
          (λ tells. memory_safe g.D.Disk c.args.disk.now x x' ends c.run_out_of_memory.ensures.told refl refl asked)
          (answer_caused asked x x' ends memory_told c.run_out_of_memory.ensures.told (blameless ends Memory Memory memory_cause refl (λ is. inr (c.run_out_of_memory.ensures.stream is)) c.run_out_of_memory.ensures.status));
    }
