-- Laws of disks that are only read.
use Rattle.std.proofs.Common.{◌≡◌, ◌≤◌, refl, arith}
use Rattle.command_kit.specs.OnlyRead.{IsOnlyRead}
use Rattle.sector_disk.specs.declared.disk.Disk.{Ghosts}

-- a disk on which nothing was done
pub untouched : {X : Type 0} (D : Ghosts X) (d : X) → IsOnlyRead D d d
untouched D d = let same : D.faults d ≤ D.faults d = omega arith in record { content = refl; faults = same; orders = refl; blocks = refl }

-- two commands that only read, one after the other
pub read_on : {X : Type 0} (D : Ghosts X) (a b c : X) → IsOnlyRead D a b → IsOnlyRead D b c → IsOnlyRead D a c
read_on D a b c one other =
    let content-one = one.content in
    let content-other = other.content in
    let content : D.content c ≡ D.content a = grind (arith, content-one, content-other) in
    let orders-one = one.orders in
    let orders-other = other.orders in
    let orders : D.orders c ≡ D.orders a = grind (arith, orders-one, orders-other) in
    let blocks-one = one.blocks in
    let blocks-other = other.blocks in
    let blocks : D.block_count c ≡ D.block_count a = grind (arith, blocks-one, blocks-other) in
    let faults-one = one.faults in
    let faults-other = other.faults in
    let faults : D.faults a ≤ D.faults c = omega arith in
    record { content = content; faults = faults; orders = orders; blocks = blocks }
