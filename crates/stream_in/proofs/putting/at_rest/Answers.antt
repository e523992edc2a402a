use Rattle.stream_in.proofs.Moments.{alike_call, told_same_mixtures, told_synced_mixtures}
use Rattle.stream_in.proofs.putting.at_rest.Goals as goal

pub returns-in-Ok-clause-time : goal.returns-in-Ok-clause-time
returns-in-Ok-clause-time g c = λ tells.
    let d = c.args.disk.now in
    let e = c.sync.new.self in
    alike_call (g.D.Disk.moment d) (g.D.Disk.moment e) (g.D.Disk.left_since d) (g.D.Disk.left_since e) (g.D.Disk.content d) (g.D.Disk.content e) (g.met.D.Disk.tells_content d tells) (c.sync.ensures.time tells)
    (told_synced_mixtures (g.D.Disk.block_count d) (g.D.Disk.content d) (g.D.Disk.content e) (g.met.D.Disk.well_formed d) c.in-Ok.ensures.synced) (λ t v le. g.met.D.Disk.counts_now d t v tells le)

pub returns-in-Err-clause-time : goal.returns-in-Err-clause-time
returns-in-Err-clause-time g c = λ tells.
    let d = c.args.disk.now in
    let e = c.sync.new.self in
    alike_call (g.D.Disk.moment d) (g.D.Disk.moment e) (g.D.Disk.left_since d) (g.D.Disk.left_since e) (g.D.Disk.content d) (g.D.Disk.content e) (g.met.D.Disk.tells_content d tells) (c.sync.ensures.time tells)
    (told_same_mixtures (g.D.Disk.content d) (g.D.Disk.content e) c.in-Err.ensures.failed) (λ t v le. g.met.D.Disk.counts_now d t v tells le)
