use Rattle.std.proofs.Common.{◌≡◌, ◌+◌, true, IsTrue, refl, ap, inl, inr, sym, subst, ◌∙◌}
use Rattle.stream_in.specs.Putting.{is_map_next}
use Rattle.stream_in.proofs.Puts.{IsPut, put_one, put_two, put_three, followed, still_below, not_fault}
use Rattle.stream_in.proofs.Laying.{put_done, more_then, more_same, behind_put}
use Rattle.stream_in.proofs.Outsides.{put_keeps, told_then, told_same}
use Rattle.stream_in.proofs.Moments.{outside_call, outside_then}
use Rattle.stream_in.proofs.Rests.{first_alone}
use Rattle.std.proofs.lemmas.Bool.{both_ways}
use Rattle.stream_in.proofs.putting.put_page.Goals as goal

pub returns-then-not-map_follows-clause-put : goal.returns-then-not-map_follows-clause-put
returns-then-not-map_follows-clause-put g c = λ free h ok.
    let e1 = c.put-step.ensures in
    let p1 : IsPut free c.put-step.new.frames c.args.writer.now c.put-step.new.self c.put-step.result =
    record { answer = e1.answer; image = e1.writer.image; made = e1.writer.made; writing = e1.writer.writing free h } in
    put_one free c.args.memory.now.frames _ c.args.writer.now c.put-step.new.self c.put-step.result c.requires.table h c.requires.page p1 ok
    (sym c.map_follows.ensures ∙ c.if-not-map_follows.true)

pub returns-then-not-map_follows-2-clause-put : goal.returns-then-not-map_follows-2-clause-put
returns-then-not-map_follows-2-clause-put g c = λ free h ok.
    let e1 = c.put-step.ensures in
    let e2 = c.put-step-2.ensures in
    let p1 : IsPut free c.put-step.new.frames c.args.writer.now c.put-step.new.self c.put-step.result =
    record { answer = e1.answer; image = e1.writer.image; made = e1.writer.made; writing = e1.writer.writing free h } in
    let map1 : is_map_next c.put-step.result ≡ true = sym c.map_follows.ensures ∙ c.if-not-map_follows.false in
    let one = followed free c.put-step.new.frames c.args.writer.now c.put-step.new.self c.put-step.result p1 map1 in
    let p2 : IsPut free c.put-step-2.new.frames c.put-step.new.self c.put-step-2.new.self c.put-step-2.result =
    record { answer = e2.answer; image = e2.writer.image; made = e2.writer.made; writing = e2.writer.writing free one.writing } in
    put_two free c.args.memory.now.frames c.put-step.new.frames _ c.args.writer.now c.put-step.new.self c.put-step-2.new.self c.put-step.result c.put-step-2.result
    c.requires.table h c.requires.page p1 map1 p2 ok (sym c.map_follows-2.ensures ∙ c.if-not-map_follows-2.true)

pub put-requires-clause-writing : goal.put-requires-clause-writing
put-requires-clause-writing g c =
    let e1 = c.put-step.ensures in
    let e2 = c.put-step-2.ensures in
    let free = c.requires.writing.0 in
    let p1 : IsPut free c.put-step.new.frames c.args.writer.now c.put-step.new.self c.put-step.result =
    record { answer = e1.answer; image = e1.writer.image; made = e1.writer.made; writing = e1.writer.writing free c.requires.writing.1 } in
    let one = followed free c.put-step.new.frames c.args.writer.now c.put-step.new.self c.put-step.result p1 (sym c.map_follows.ensures ∙ c.if-not-map_follows.false) in
    let p2 : IsPut free c.put-step-2.new.frames c.put-step.new.self c.put-step-2.new.self c.put-step-2.result =
    record { answer = e2.answer; image = e2.writer.image; made = e2.writer.made; writing = e2.writer.writing free one.writing } in
    let two = followed free c.put-step-2.new.frames c.put-step.new.self c.put-step-2.new.self c.put-step-2.result p2 (sym c.map_follows-2.ensures ∙ c.if-not-map_follows-2.false) in
    (free, two.writing, still_below free c.args.writer.now c.put-step.new.self c.put-step-2.new.self _ _ one.image two.image (e2.called.blocks ∙ e1.called.blocks) c.requires.writing.2)

pub returns-clause-put : goal.returns-clause-put
returns-clause-put g c = λ free h ok.
    let e1 = c.put-step.ensures in
    let e2 = c.put-step-2.ensures in
    let e3 = c.put.ensures in
    let p1 : IsPut free c.put-step.new.frames c.args.writer.now c.put-step.new.self c.put-step.result =
    record { answer = e1.answer; image = e1.writer.image; made = e1.writer.made; writing = e1.writer.writing free h } in
    let map1 : is_map_next c.put-step.result ≡ true = sym c.map_follows.ensures ∙ c.if-not-map_follows.false in
    let one = followed free c.put-step.new.frames c.args.writer.now c.put-step.new.self c.put-step.result p1 map1 in
    let p2 : IsPut free c.put-step-2.new.frames c.put-step.new.self c.put-step-2.new.self c.put-step-2.result =
    record { answer = e2.answer; image = e2.writer.image; made = e2.writer.made; writing = e2.writer.writing free one.writing } in
    let map2 : is_map_next c.put-step-2.result ≡ true = sym c.map_follows-2.ensures ∙ c.if-not-map_follows-2.false in
    let two = followed free c.put-step-2.new.frames c.put-step.new.self c.put-step-2.new.self c.put-step-2.result p2 map2 in
    let p3 : IsPut free c.put.new.frames c.put-step-2.new.self c.put.new.self c.put.result =
    record { answer = e3.answer; image = e3.writer.image; made = e3.writer.made; writing = e3.writer.writing free two.writing } in
    put_three free c.args.memory.now.frames c.put-step.new.frames c.put-step-2.new.frames _ c.args.writer.now c.put-step.new.self c.put-step-2.new.self c.put.new.self
    c.put-step.result c.put-step-2.result c.put.result c.requires.table h c.requires.page p1 map1 p2 map2 p3 ok

-- How often the disk is called for the first page.

pub returns-then-not-map_follows-2-clause-first_call : goal.returns-then-not-map_follows-2-clause-first_call
returns-then-not-map_follows-2-clause-first_call g c = λ first some. absurd (both_ways (is_map_next c.put-step.result) (first_alone c.args.writer.now c.put-step.result first some c.put-step.ensures.answer) (sym c.map_follows.ensures ∙ c.if-not-map_follows.false))

pub returns-clause-first_call : goal.returns-clause-first_call
returns-clause-first_call g c = λ first some. absurd (both_ways (is_map_next c.put-step.result) (first_alone c.args.writer.now c.put-step.result first some c.put-step.ensures.answer) (sym c.map_follows.ensures ∙ c.if-not-map_follows.false))

-- The other blocks.

pub returns-then-not-map_follows-clause-outside : goal.returns-then-not-map_follows-clause-outside
returns-then-not-map_follows-clause-outside g c = λ free h.
    let e1 = c.put-step.ensures in
    put_keeps free c.args.memory.now.frames c.args.writer.now c.args.page.now c.put-step.result (g.D.Disk.content c.args.disk.now) (g.D.Disk.content c.put-step.new.disk) h e1.answer (e1.page.written free h) (e1.page.failed free h)

pub returns-then-not-map_follows-2-clause-outside : goal.returns-then-not-map_follows-2-clause-outside
returns-then-not-map_follows-2-clause-outside g c = λ free h.
    let e1 = c.put-step.ensures in
    let e2 = c.put-step-2.ensures in
    let x = c.args.writer.now.extents in
    let a = g.D.Disk.content c.args.disk.now in
    let b = g.D.Disk.content c.put-step.new.disk in
    let d = g.D.Disk.content c.put-step-2.new.disk in
    let p1 : IsPut free c.put-step.new.frames c.args.writer.now c.put-step.new.self c.put-step.result =
    record { answer = e1.answer; image = e1.writer.image; made = e1.writer.made; writing = e1.writer.writing free h } in
    let one = followed free c.put-step.new.frames c.args.writer.now c.put-step.new.self c.put-step.result p1 (sym c.map_follows.ensures ∙ c.if-not-map_follows.false) in
    let k1 = put_keeps free c.args.memory.now.frames c.args.writer.now c.args.page.now c.put-step.result a b h e1.answer (e1.page.written free h) (e1.page.failed free h) in
    let k2 = put_keeps free c.put-step.new.frames c.put-step.new.self c.args.page.now c.put-step-2.result b d one.writing e2.answer (e2.page.written free one.writing) (e2.page.failed free one.writing) in
    told_then x free a b d k1 (told_same x c.put-step.new.self.extents free b d e1.writer.image.extents k2)

pub returns-clause-outside : goal.returns-clause-outside
returns-clause-outside g c = λ free h.
    let e1 = c.put-step.ensures in
    let e2 = c.put-step-2.ensures in
    let e3 = c.put.ensures in
    let x = c.args.writer.now.extents in
    let a = g.D.Disk.content c.args.disk.now in
    let b = g.D.Disk.content c.put-step.new.disk in
    let d = g.D.Disk.content c.put-step-2.new.disk in
    let f = g.D.Disk.content c.put.new.disk in
    let p1 : IsPut free c.put-step.new.frames c.args.writer.now c.put-step.new.self c.put-step.result =
    record { answer = e1.answer; image = e1.writer.image; made = e1.writer.made; writing = e1.writer.writing free h } in
    let one = followed free c.put-step.new.frames c.args.writer.now c.put-step.new.self c.put-step.result p1 (sym c.map_follows.ensures ∙ c.if-not-map_follows.false) in
    let p2 : IsPut free c.put-step-2.new.frames c.put-step.new.self c.put-step-2.new.self c.put-step-2.result =
    record { answer = e2.answer; image = e2.writer.image; made = e2.writer.made; writing = e2.writer.writing free one.writing } in
    let two = followed free c.put-step-2.new.frames c.put-step.new.self c.put-step-2.new.self c.put-step-2.result p2 (sym c.map_follows-2.ensures ∙ c.if-not-map_follows-2.false) in
    let k1 = put_keeps free c.args.memory.now.frames c.args.writer.now c.args.page.now c.put-step.result a b h e1.answer (e1.page.written free h) (e1.page.failed free h) in
    let k2 = put_keeps free c.put-step.new.frames c.put-step.new.self c.args.page.now c.put-step-2.result b d one.writing e2.answer (e2.page.written free one.writing) (e2.page.failed free one.writing) in
    let k3 = put_keeps free c.put-step-2.new.frames c.put-step-2.new.self c.args.page.now c.put.result d f two.writing e3.answer (e3.page.written free two.writing) (e3.page.failed free two.writing) in
    told_then x free a b f k1 (told_then x free b d f (told_same x c.put-step.new.self.extents free b d e1.writer.image.extents k2)
    (told_same x c.put-step-2.new.self.extents free d f (e2.writer.image.extents ∙ e1.writer.image.extents) k3))

-- What is on the disk.

pub returns-then-not-map_follows-clause-done : goal.returns-then-not-map_follows-clause-done
returns-then-not-map_follows-clause-done g c = λ free pages h of below is ok.
    let e1 = c.put-step.ensures in
    let w0 = c.args.writer.now in
    let a = g.D.Disk.content c.args.disk.now in
    let b = g.D.Disk.content c.put-step.new.disk in
    more_same w0.extents w0.extents free w0.info.pages w0.info.pages pages w0.written w0.written c.put-step.new.self.written (w0.written + 1) a b refl refl refl (sym (e1.writer.made ok))
    (put_done free c.args.memory.now.frames w0 c.args.page.now pages (g.D.Disk.block_count c.args.disk.now) a b h of c.is_page.ensures.page below (g.met.D.Disk.well_formed c.args.disk.now) (inr is) (e1.page.written free h ok))

pub returns-then-not-map_follows-2-clause-done : goal.returns-then-not-map_follows-2-clause-done
returns-then-not-map_follows-2-clause-done g c = λ free pages h of below is ok.
    let e1 = c.put-step.ensures in
    let e2 = c.put-step-2.ensures in
    let w0 = c.args.writer.now in
    let w1 = c.put-step.new.self in
    let a = g.D.Disk.content c.args.disk.now in
    let b = g.D.Disk.content c.put-step.new.disk in
    let d = g.D.Disk.content c.put-step-2.new.disk in
    let p1 : IsPut free c.put-step.new.frames w0 w1 c.put-step.result =
    record { answer = e1.answer; image = e1.writer.image; made = e1.writer.made; writing = e1.writer.writing free h } in
    let map1 : is_map_next c.put-step.result ≡ true = sym c.map_follows.ensures ∙ c.if-not-map_follows.false in
    let one = followed free c.put-step.new.frames w0 w1 c.put-step.result p1 map1 in
    let d1 = put_done free c.args.memory.now.frames w0 c.args.page.now pages (g.D.Disk.block_count c.args.disk.now) a b h of c.is_page.ensures.page below (g.met.D.Disk.well_formed c.args.disk.now) (inr is)
    (e1.page.written free h (not_fault c.put-step.result map1)) in
    let s1 = behind_put free w0 w1 (g.D.Disk.block_count c.args.disk.now) (g.D.Disk.block_count c.put-step.new.disk) one e1.called.blocks of below in
    let d2 = put_done free c.put-step.new.frames w1 c.args.page.now pages (g.D.Disk.block_count c.put-step.new.disk) b d one.writing s1.of c.is_page.ensures.page s1.below (g.met.D.Disk.well_formed c.put-step.new.disk) (inl s1.map) (e2.page.written free one.writing ok) in
    more_then w0.extents free w0.info.pages pages w0.written (w0.written + 1) c.put-step-2.new.self.written a b d d1
    (more_same w0.extents w1.extents free w0.info.pages w1.info.pages pages (w0.written + 1) w1.written c.put-step-2.new.self.written (w1.written + 1) b d
    e1.writer.image.extents (ap (λ i. i.pages) e1.writer.image.info) one.written (sym (e2.writer.made ok)) d2)

pub returns-clause-done : goal.returns-clause-done
returns-clause-done g c = λ free pages h of below is ok.
    let e1 = c.put-step.ensures in
    let e2 = c.put-step-2.ensures in
    let e3 = c.put.ensures in
    let w0 = c.args.writer.now in
    let w1 = c.put-step.new.self in
    let w2 = c.put-step-2.new.self in
    let a = g.D.Disk.content c.args.disk.now in
    let b = g.D.Disk.content c.put-step.new.disk in
    let d = g.D.Disk.content c.put-step-2.new.disk in
    let f = g.D.Disk.content c.put.new.disk in
    let p1 : IsPut free c.put-step.new.frames w0 w1 c.put-step.result =
    record { answer = e1.answer; image = e1.writer.image; made = e1.writer.made; writing = e1.writer.writing free h } in
    let map1 : is_map_next c.put-step.result ≡ true = sym c.map_follows.ensures ∙ c.if-not-map_follows.false in
    let one = followed free c.put-step.new.frames w0 w1 c.put-step.result p1 map1 in
    let p2 : IsPut free c.put-step-2.new.frames w1 w2 c.put-step-2.result =
    record { answer = e2.answer; image = e2.writer.image; made = e2.writer.made; writing = e2.writer.writing free one.writing } in
    let map2 : is_map_next c.put-step-2.result ≡ true = sym c.map_follows-2.ensures ∙ c.if-not-map_follows-2.false in
    let two = followed free c.put-step-2.new.frames w1 w2 c.put-step-2.result p2 map2 in
    let d1 = put_done free c.args.memory.now.frames w0 c.args.page.now pages (g.D.Disk.block_count c.args.disk.now) a b h of c.is_page.ensures.page below (g.met.D.Disk.well_formed c.args.disk.now) (inr is)
    (e1.page.written free h (not_fault c.put-step.result map1)) in
    let s1 = behind_put free w0 w1 (g.D.Disk.block_count c.args.disk.now) (g.D.Disk.block_count c.put-step.new.disk) one e1.called.blocks of below in
    let d2 = put_done free c.put-step.new.frames w1 c.args.page.now pages (g.D.Disk.block_count c.put-step.new.disk) b d one.writing s1.of c.is_page.ensures.page s1.below (g.met.D.Disk.well_formed c.put-step.new.disk) (inl s1.map)
    (e2.page.written free one.writing (not_fault c.put-step-2.result map2)) in
    let s2 = behind_put free w1 w2 (g.D.Disk.block_count c.put-step.new.disk) (g.D.Disk.block_count c.put-step-2.new.disk) two e2.called.blocks s1.of s1.below in
    let d3 = put_done free c.put-step-2.new.frames w2 c.args.page.now pages (g.D.Disk.block_count c.put-step-2.new.disk) d f two.writing s2.of c.is_page.ensures.page s2.below (g.met.D.Disk.well_formed c.put-step-2.new.disk) (inl s2.map) (e3.page.written free two.writing ok) in
    more_then w0.extents free w0.info.pages pages w0.written (w0.written + 1) c.put.new.self.written a b f d1
    (more_same w0.extents w1.extents free w0.info.pages w1.info.pages pages (w0.written + 1) w1.written c.put.new.self.written c.put.new.self.written b f
    e1.writer.image.extents (ap (λ i. i.pages) e1.writer.image.info) one.written refl
    (more_then w1.extents free w1.info.pages pages w1.written (w1.written + 1) c.put.new.self.written b d f d2
    (more_same w1.extents w2.extents free w1.info.pages w2.info.pages pages (w1.written + 1) w2.written c.put.new.self.written (w2.written + 1) d f
    e2.writer.image.extents (ap (λ i. i.pages) e2.writer.image.info) two.written (sym (e3.writer.made ok)) d3)))

pub put-step-requires-2-clause-writing : goal.put-step-requires-2-clause-writing
put-step-requires-2-clause-writing g c =
    let e1 = c.put-step.ensures in
    let free = c.requires.writing.0 in
    let w0 = c.args.writer.now in
    let p1 : IsPut free c.put-step.new.frames w0 c.put-step.new.self c.put-step.result =
    record { answer = e1.answer; image = e1.writer.image; made = e1.writer.made; writing = e1.writer.writing free c.requires.writing.1 } in
    let one = followed free c.put-step.new.frames w0 c.put-step.new.self c.put-step.result p1 (sym c.map_follows.ensures ∙ c.if-not-map_follows.false) in
    (free, one.writing, still_below free w0 w0 c.put-step.new.self _ _ (record { info = refl; extents = refl; table = refl; first = refl }) one.image e1.called.blocks c.requires.writing.2)

-- Moments.

pub returns-then-not-map_follows-clause-time : goal.returns-then-not-map_follows-clause-time
returns-then-not-map_follows-clause-time g c = λ tells free h.
    let e1 = c.put-step.ensures in
    let d = c.args.disk.now in
    let a = g.D.Disk.content d in
    let b = g.D.Disk.content c.put-step.new.disk in
    let k1 = put_keeps free c.args.memory.now.frames c.args.writer.now c.args.page.now c.put-step.result a b h e1.answer (e1.page.written free h) (e1.page.failed free h) in
    outside_call c.args.writer.now.extents free (g.D.Disk.block_count d) (g.D.Disk.moment d) (g.D.Disk.moment c.put-step.new.disk) (g.D.Disk.left_since d) (g.D.Disk.left_since c.put-step.new.disk) a b
    (g.met.D.Disk.tells_content d tells) (g.met.D.Disk.well_formed d) (e1.called.time tells) k1 (λ t v le. g.met.D.Disk.counts_now d t v tells le)

pub returns-then-not-map_follows-2-clause-time : goal.returns-then-not-map_follows-2-clause-time
returns-then-not-map_follows-2-clause-time g c = λ tells free h.
    let e1 = c.put-step.ensures in
    let e2 = c.put-step-2.ensures in
    let x = c.args.writer.now.extents in
    let d0 = c.args.disk.now in
    let d1 = c.put-step.new.disk in
    let d2 = c.put-step-2.new.disk in
    let content = g.D.Disk.content in
    let moment = g.D.Disk.moment in
    let left = g.D.Disk.left_since in
    let p1 : IsPut free c.put-step.new.frames c.args.writer.now c.put-step.new.self c.put-step.result =
    record { answer = e1.answer; image = e1.writer.image; made = e1.writer.made; writing = e1.writer.writing free h } in
    let one = followed free c.put-step.new.frames c.args.writer.now c.put-step.new.self c.put-step.result p1 (sym c.map_follows.ensures ∙ c.if-not-map_follows.false) in
    let k1 = put_keeps free c.args.memory.now.frames c.args.writer.now c.args.page.now c.put-step.result (content d0) (content d1) h e1.answer (e1.page.written free h) (e1.page.failed free h) in
    let k2 = put_keeps free c.put-step.new.frames c.put-step.new.self c.args.page.now c.put-step-2.result (content d1) (content d2) one.writing e2.answer (e2.page.written free one.writing) (e2.page.failed free one.writing) in
    let tells1 = subst IsTrue (sym e1.called.telling) tells in
    let t1 = outside_call x free (g.D.Disk.block_count d0) (moment d0) (moment d1) (left d0) (left d1) (content d0) (content d1) (g.met.D.Disk.tells_content d0 tells) (g.met.D.Disk.well_formed d0) (e1.called.time tells) k1
    (λ t v le. g.met.D.Disk.counts_now d0 t v tells le) in
    let t2 = outside_call x free (g.D.Disk.block_count d1) (moment d1) (moment d2) (left d1) (left d2) (content d1) (content d2) (g.met.D.Disk.tells_content d1 tells1) (g.met.D.Disk.well_formed d1) (e2.called.time tells1)
    (told_same x c.put-step.new.self.extents free (content d1) (content d2) e1.writer.image.extents k2) (λ t v le. g.met.D.Disk.counts_now d1 t v tells1 le) in
    outside_then x free (moment d0) (moment d1) (moment d2) (left d0) (left d1) (left d2) t1 t2

pub returns-clause-time : goal.returns-clause-time
returns-clause-time g c = λ tells free h.
    let e1 = c.put-step.ensures in
    let e2 = c.put-step-2.ensures in
    let e3 = c.put.ensures in
    let x = c.args.writer.now.extents in
    let d0 = c.args.disk.now in
    let d1 = c.put-step.new.disk in
    let d2 = c.put-step-2.new.disk in
    let d3 = c.put.new.disk in
    let content = g.D.Disk.content in
    let moment = g.D.Disk.moment in
    let left = g.D.Disk.left_since in
    let p1 : IsPut free c.put-step.new.frames c.args.writer.now c.put-step.new.self c.put-step.result =
    record { answer = e1.answer; image = e1.writer.image; made = e1.writer.made; writing = e1.writer.writing free h } in
    let one = followed free c.put-step.new.frames c.args.writer.now c.put-step.new.self c.put-step.result p1 (sym c.map_follows.ensures ∙ c.if-not-map_follows.false) in
    let p2 : IsPut free c.put-step-2.new.frames c.put-step.new.self c.put-step-2.new.self c.put-step-2.result =
    record { answer = e2.answer; image = e2.writer.image; made = e2.writer.made; writing = e2.writer.writing free one.writing } in
    let two = followed free c.put-step-2.new.frames c.put-step.new.self c.put-step-2.new.self c.put-step-2.result p2 (sym c.map_follows-2.ensures ∙ c.if-not-map_follows-2.false) in
    let k1 = put_keeps free c.args.memory.now.frames c.args.writer.now c.args.page.now c.put-step.result (content d0) (content d1) h e1.answer (e1.page.written free h) (e1.page.failed free h) in
    let k2 = put_keeps free c.put-step.new.frames c.put-step.new.self c.args.page.now c.put-step-2.result (content d1) (content d2) one.writing e2.answer (e2.page.written free one.writing) (e2.page.failed free one.writing) in
    let k3 = put_keeps free c.put-step-2.new.frames c.put-step-2.new.self c.args.page.now c.put.result (content d2) (content d3) two.writing e3.answer (e3.page.written free two.writing) (e3.page.failed free two.writing) in
    let tells1 = subst IsTrue (sym e1.called.telling) tells in
    let tells2 = subst IsTrue (sym e2.called.telling) tells1 in
    let t1 = outside_call x free (g.D.Disk.block_count d0) (moment d0) (moment d1) (left d0) (left d1) (content d0) (content d1) (g.met.D.Disk.tells_content d0 tells) (g.met.D.Disk.well_formed d0) (e1.called.time tells) k1
    (λ t v le. g.met.D.Disk.counts_now d0 t v tells le) in
    let t2 = outside_call x free (g.D.Disk.block_count d1) (moment d1) (moment d2) (left d1) (left d2) (content d1) (content d2) (g.met.D.Disk.tells_content d1 tells1) (g.met.D.Disk.well_formed d1) (e2.called.time tells1)
    (told_same x c.put-step.new.self.extents free (content d1) (content d2) e1.writer.image.extents k2) (λ t v le. g.met.D.Disk.counts_now d1 t v tells1 le) in
    let t3 = outside_call x free (g.D.Disk.block_count d2) (moment d2) (moment d3) (left d2) (left d3) (content d2) (content d3) (g.met.D.Disk.tells_content d2 tells2) (g.met.D.Disk.well_formed d2) (e3.called.time tells2)
    (told_same x c.put-step-2.new.self.extents free (content d2) (content d3) (e2.writer.image.extents ∙ e1.writer.image.extents) k3) (λ t v le. g.met.D.Disk.counts_now d2 t v tells2 le) in
    outside_then x free (moment d0) (moment d1) (moment d3) (left d0) (left d1) (left d3) t1 (outside_then x free (moment d1) (moment d2) (moment d3) (left d1) (left d2) (left d3) t2 t3)
