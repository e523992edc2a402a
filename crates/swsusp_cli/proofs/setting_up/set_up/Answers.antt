use Rattle.std.proofs.Common.{◌≡◌, ◌≤◌, ◌<◌, ℕ, List, Result, Err, refl, sym, ap, ◌∙◌, subst, arith}
use Rattle.std.specs.Prelude.{MatchResult}
use Rattle.std.proofs.lemmas.Result.{err_from_is_err_and}
use Rattle.definitions.specs.Disk as disk
use Rattle.plain_machine.specs.Machine.{Hardware, IsHardware, block_of_slot}
use Rattle.script.specs.Grammar.{ScriptValue}
use Rattle.swsusp_cli.specs.Replay.{Formats, FailsToFormat, IsNeeded, LieBelow}
use Rattle.swsusp_cli.specs.SettingUp.{FailsToSetUp, IsNotSetUp, IsSetUp}
use Rattle.command_kit.specs.View.{DiskView}
use Rattle.swsusp_cli.specs.declared.setting_up.Unready.{Unready}
use Rattle.swsusp_cli.proofs.setting_up.set_up.Goals as goal

-- what holds of the settings as they are lent holds of the script's
formatted_by : (P : Hardware → ℕ → List ℕ → Type 0) (script : ScriptValue) {h : Hardware} {last : ℕ} {bad : List ℕ} → h ≡ script.hardware → last ≡ script.last → bad ≡ script.bad → P h last bad → P script.hardware script.last script.bad
formatted_by P script {h} {last} {bad} hw last_is bad_is is =
    subst (λ (b : List ℕ). P script.hardware script.last b) bad_is (subst (λ (l : ℕ). P script.hardware l bad) last_is (subst (λ (g : Hardware). P g last bad) hw is))

-- the header block lies on the disk
requires_header : (h : Hardware) (need blocks : ℕ) → IsHardware h → IsNeeded h need → need ≤ blocks → block_of_slot h 0 < blocks
requires_header h need blocks hw needed le = let some = hw.some_slots in let below = needed.enough 0 (omega arith) in omega arith

lie_below : (h : Hardware) (need blocks : ℕ) → IsNeeded h need → need ≤ blocks → LieBelow h blocks
lie_below h need blocks needed le s lt = let below = needed.enough s lt in omega arith

pub format-requires-clause-header : goal.format-requires-clause-header
format-requires-clause-header g c =
    let blocks_is = c.blocks-blocks.ensures in
    let above = c.if-blocks-need.false in
    requires_header c.hardware-hw.result.now c.blocks_needed-need.result (g.D.Disk.block_count c.args.disk.now) c.blocks_needed-need.ensures.hardware c.blocks_needed-need.ensures.need (omega arith)

pub returns-then-blocks-need : goal.returns-then-blocks-need
returns-then-blocks-need g c =
    let blocks_is = c.blocks-blocks.ensures in
    let below = c.if-blocks-need.true in
    record {
      outcome = record {
        has = blocks_is;
        needed = subst (λ (h : Hardware). IsNeeded h c.blocks_needed-need.result) c.hardware-hw.ensures c.blocks_needed-need.ensures.need;
        small = omega arith;
        untouched = refl;
      };
    }

pub returns-in_err-format : goal.returns-in_err-format
returns-in_err-format g c =
    let p = err_from_is_err_and c.from_residual.result c.from_residual.ensures.1 in
    let call = c.in_err-format.field-0.0 in
    let script = c.args.script.now in
    let blocks_is = c.blocks-blocks.ensures in
    let above = c.if-blocks-need.false in
    let hw = c.hardware-hw.ensures in
    let needed = subst (λ (h : Hardware). IsNeeded h c.blocks_needed-need.result) hw c.blocks_needed-need.ensures.need in
    let before : DiskView = record { blocks = g.D.Disk.block_count c.args.disk.now; content = g.D.Disk.content c.args.disk.now; faults = g.D.Disk.faults c.args.disk.now; calls = g.D.Disk.calls c.args.disk.now; orders = g.D.Disk.orders c.args.disk.now } in
    let after : DiskView = record { blocks = g.D.Disk.block_count c.format.new.disk; content = g.D.Disk.content c.format.new.disk; faults = g.D.Disk.faults c.format.new.disk; calls = g.D.Disk.calls c.format.new.disk; orders = g.D.Disk.orders c.format.new.disk } in
    let fails : FailsToSetUp script before after call = record {
      roomy = lie_below script.hardware c.blocks_needed-need.result (g.D.Disk.block_count c.args.disk.now) needed (omega arith);
      risen = c.in_err-format.ensures.cause refl;
      calls = c.in_err-format.ensures.calls;
      content = formatted_by (λ h last bad. disk.Changes (FailsToFormat h last bad call) (g.D.Disk.content c.args.disk.now) (g.D.Disk.content c.format.new.disk)) script hw c.last.ensures c.bad.ensures c.in_err-format.ensures.content;
      orders = c.format.ensures.orders;
    } in
    record { outcome = subst (λ (r : Result (Unit {0}) Unready). MatchResult r (λ done. IsSetUp script before after) (IsNotSetUp script before after)) (sym (p.1 ∙ ap Err p.2)) fails }

pub returns : goal.returns
returns g c =
    let script = c.args.script.now in
    let blocks_is = c.blocks-blocks.ensures in
    let above = c.if-blocks-need.false in
    let hw = c.hardware-hw.ensures in
    let needed = subst (λ (h : Hardware). IsNeeded h c.blocks_needed-need.result) hw c.blocks_needed-need.ensures.need in
    record {
      outcome = record {
        hardware = subst IsHardware hw c.blocks_needed-need.ensures.hardware;
        roomy = lie_below script.hardware c.blocks_needed-need.result (g.D.Disk.block_count c.args.disk.now) needed (omega arith);
        formats = formatted_by (λ h last bad. disk.Changes (Formats h last bad) (g.D.Disk.content c.args.disk.now) (g.D.Disk.content c.format.new.disk)) script hw c.last.ensures c.bad.ensures c.in_ok-format.ensures.content;
        faults = c.format.ensures.faults;
        calls = c.in_ok-format.ensures.calls;
        orders = c.format.ensures.orders;
      };
    }
