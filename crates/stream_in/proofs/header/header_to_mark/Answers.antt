use Rattle.std.proofs.Common.{◌≡◌, ◌<◌, Some, IsTrue, sym, ap, subst, ◌∙◌, rules}
use Rattle.definitions.specs.Disk.{Changes, as_it_reads, block}
use Rattle.plain_machine.specs.UsableArea.{kind_fault}
use Rattle.image_format.specs.AreaKind.{area_kind}
use Rattle.stream_in.proofs.Contents.{if_map}
use Rattle.stream_in.proofs.Moments.{alike_call, alike_then, told_same_mixtures, told_synced_mixtures}
use Rattle.stream_in.specs.Moments.{AddsNoImage}
use Rattle.stream_in.proofs.Trying.{told_adds_same, told_adds_synced}
use Rattle.stream_in.proofs.Undoing.{header_read, IsHeader}
use Rattle.stream_in.proofs.header.header_to_mark.Goals as goal

pub returns-in-Ok-version_1-clause-header : goal.returns-in-Ok-version_1-clause-header
returns-in-Ok-version_1-clause-header g c =
    let blocks = g.D.Disk.block_count c.sync.new.self in
    let some : 0 < blocks = subst (λ n. 0 < n) (sym c.sync.ensures.blocks) c.requires in
    header_read blocks c.in_ok-header.header (g.D.Disk.content c.args.disk.now) (g.D.Disk.content c.sync.new.self) some c.in-Ok.ensures.synced c.in_ok-header.ensures.header

pub returns-in-Err-version_1-clause-stopped : goal.returns-in-Err-version_1-clause-stopped
returns-in-Err-version_1-clause-stopped g c = record {
  leaves = search rules;
  stops = search rules;
  no_swap =
      let blocks = g.D.Disk.block_count c.sync.new.self in
      let some : 0 < blocks = subst (λ n. 0 < n) (sym c.sync.ensures.blocks) c.requires in
      let page = c.in_ok-header.header in
      let read = header_read blocks page (g.D.Disk.content c.args.disk.now) (g.D.Disk.content c.sync.new.self) some c.in-Ok.ensures.synced c.in_ok-header.ensures.header in
      if_map (IsHeader page) (λ held. kind_fault (area_kind (block (as_it_reads held) 0)) ≡ Some c.in-Err-version_1.why) (g.D.Disk.content c.args.disk.now)
      (λ x e. ap (λ p. kind_fault (area_kind p)) (sym e) ∙ ap kind_fault (sym c.read.ensures) ∙ c.in-Err-version_1.ensures) read;
}

-- Moments.

pub returns-in-Err-clause-time : goal.returns-in-Err-clause-time
returns-in-Err-clause-time g c = λ tells.
    let d = c.args.disk.now in
    let e = c.sync.new.self in
    alike_call (g.D.Disk.moment d) (g.D.Disk.moment e) (g.D.Disk.left_since d) (g.D.Disk.left_since e) (g.D.Disk.content d) (g.D.Disk.content e) (g.met.D.Disk.tells_content d tells) (c.sync.ensures.time tells)
    (told_same_mixtures (g.D.Disk.content d) (g.D.Disk.content e) c.in-Err.ensures.failed) (λ t v le. g.met.D.Disk.counts_now d t v tells le)

pub returns-in_err-header-clause-time : goal.returns-in_err-header-clause-time
returns-in_err-header-clause-time g c = λ tells.
    let d = c.args.disk.now in
    let e = c.sync.new.self in
    let f = c.read_header.new.disk in
    let first = alike_call (g.D.Disk.moment d) (g.D.Disk.moment e) (g.D.Disk.left_since d) (g.D.Disk.left_since e) (g.D.Disk.content d) (g.D.Disk.content e) (g.met.D.Disk.tells_content d tells) (c.sync.ensures.time tells)
    (told_synced_mixtures (g.D.Disk.block_count d) (g.D.Disk.content d) (g.D.Disk.content e) (g.met.D.Disk.well_formed d) c.in-Ok.ensures.synced) (λ t v le. g.met.D.Disk.counts_now d t v tells le) in
    alike_then (g.D.Disk.moment d) (g.D.Disk.moment e) (g.D.Disk.moment f) (g.D.Disk.left_since d) (g.D.Disk.left_since e) (g.D.Disk.left_since f) first (c.read_header.ensures.time (subst IsTrue (sym c.sync.ensures.telling) tells))

pub returns-in-Ok-version_1-clause-time : goal.returns-in-Ok-version_1-clause-time
returns-in-Ok-version_1-clause-time g c = λ tells.
    let d = c.args.disk.now in
    let e = c.sync.new.self in
    let f = c.read_header.new.disk in
    let first = alike_call (g.D.Disk.moment d) (g.D.Disk.moment e) (g.D.Disk.left_since d) (g.D.Disk.left_since e) (g.D.Disk.content d) (g.D.Disk.content e) (g.met.D.Disk.tells_content d tells) (c.sync.ensures.time tells)
    (told_synced_mixtures (g.D.Disk.block_count d) (g.D.Disk.content d) (g.D.Disk.content e) (g.met.D.Disk.well_formed d) c.in-Ok.ensures.synced) (λ t v le. g.met.D.Disk.counts_now d t v tells le) in
    alike_then (g.D.Disk.moment d) (g.D.Disk.moment e) (g.D.Disk.moment f) (g.D.Disk.left_since d) (g.D.Disk.left_since e) (g.D.Disk.left_since f) first (c.read_header.ensures.time (subst IsTrue (sym c.sync.ensures.telling) tells))

pub returns-in-Err-version_1-clause-time : goal.returns-in-Err-version_1-clause-time
returns-in-Err-version_1-clause-time g c = λ tells.
    let d = c.args.disk.now in
    let e = c.sync.new.self in
    let f = c.read_header.new.disk in
    let first = alike_call (g.D.Disk.moment d) (g.D.Disk.moment e) (g.D.Disk.left_since d) (g.D.Disk.left_since e) (g.D.Disk.content d) (g.D.Disk.content e) (g.met.D.Disk.tells_content d tells) (c.sync.ensures.time tells)
    (told_synced_mixtures (g.D.Disk.block_count d) (g.D.Disk.content d) (g.D.Disk.content e) (g.met.D.Disk.well_formed d) c.in-Ok.ensures.synced) (λ t v le. g.met.D.Disk.counts_now d t v tells le) in
    alike_then (g.D.Disk.moment d) (g.D.Disk.moment e) (g.D.Disk.moment f) (g.D.Disk.left_since d) (g.D.Disk.left_since e) (g.D.Disk.left_since f) first (c.read_header.ensures.time (subst IsTrue (sym c.sync.ensures.telling) tells))

-- The images.

pub returns-in-Err-clause-images : goal.returns-in-Err-clause-images
returns-in-Err-clause-images g c = told_adds_same (g.D.Disk.content c.args.disk.now) (g.D.Disk.content c.sync.new.self) c.in-Err.ensures.failed

pub returns-in_err-header-clause-images : goal.returns-in_err-header-clause-images
returns-in_err-header-clause-images g c =
    let a = g.D.Disk.content c.args.disk.now in
    subst (λ o. Changes AddsNoImage a o) (sym c.read_header.ensures.content) (told_adds_synced (g.D.Disk.block_count c.args.disk.now) a (g.D.Disk.content c.sync.new.self) (g.met.D.Disk.well_formed c.args.disk.now) c.in-Ok.ensures.synced)

pub returns-in-Ok-version_1-clause-images : goal.returns-in-Ok-version_1-clause-images
returns-in-Ok-version_1-clause-images g c =
    let a = g.D.Disk.content c.args.disk.now in
    subst (λ o. Changes AddsNoImage a o) (sym c.read_header.ensures.content) (told_adds_synced (g.D.Disk.block_count c.args.disk.now) a (g.D.Disk.content c.sync.new.self) (g.met.D.Disk.well_formed c.args.disk.now) c.in-Ok.ensures.synced)

pub returns-in-Err-version_1-clause-images : goal.returns-in-Err-version_1-clause-images
returns-in-Err-version_1-clause-images g c =
    let a = g.D.Disk.content c.args.disk.now in
    subst (λ o. Changes AddsNoImage a o) (sym c.read_header.ensures.content) (told_adds_synced (g.D.Disk.block_count c.args.disk.now) a (g.D.Disk.content c.sync.new.self) (g.met.D.Disk.well_formed c.args.disk.now) c.in-Ok.ensures.synced)
