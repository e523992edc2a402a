use Rattle.std.proofs.Common.{◌≡◌, ◌%◌, ◌<◌, ℕ, Bool, ◌∷◌, refl, sym, ap, subst, ◌∙◌, arith}
use Rattle.page_core.specs.declared.format.Format.{Format}
use Rattle.definitions.specs.Bytes.{word}
use Rattle.image_check.specs.Numbers.{frame_of}
use Rattle.image_pages.specs.Saved.{has_page}
use Rattle.image_pages.specs.SaysWord.{IsNextWord}
use Rattle.image_pages.proofs.Numbering.{all_numbered, at_number, next_number, numbers_after}
use Rattle.image_pages.proofs.frames.numbers.Numbers.next_word.Goals as goal

pub turn-requires : goal.turn-requires
turn-requires g c =
    let (header, (given, h)) = c.requires in
    let n = c.args.self.now in
    let more : n.given < n.count = omega (arith, h.few, c.if-self.false) in
    (header, (n.info, (h.listed, at_number (g.D.Disk.content c.args.disk.now) (g.D.Disk.block_count c.args.disk.now) header n given h more)))

pub returns-then-self-clause-says : goal.returns-then-self-clause-says
returns-then-self-clause-says g c = λ header given h.
    let all : c.args.self.now.given ≡ c.args.self.now.count = omega (arith, c.if-self.true) in
    (refl, all_numbered (g.D.Disk.content c.args.disk.now) (g.D.Disk.block_count c.args.disk.now) header c.args.self.now given h all)

pub returns-then-not-turn-clause-says : goal.returns-then-not-turn-clause-says
returns-then-not-turn-clause-says g c = λ header given h.
    let content = g.D.Disk.content c.args.disk.now in
    let blocks = g.D.Disk.block_count c.args.disk.now in
    let n = c.args.self.now in
    let more : n.given < n.count = omega (arith, h.few, c.if-self.false) in
    (n.info ∷ h.listed, c.if-not-turn.ensures.turns header n.info h.listed (at_number content blocks header n given h more))

pub returns-clause-says : goal.returns-clause-says
returns-clause-says g c = λ header given h.
    let content = g.D.Disk.content c.args.disk.now in
    let blocks = g.D.Disk.block_count c.args.disk.now in
    let n = c.args.self.now in
    let q = numbers_after n c.turn.new.numbers c.turn.new.listed in
    let more : n.given < n.count = omega (arith, h.few, c.if-self.false) in
    let turned = c.if-not-turn.ensures.turns header n.info h.listed (at_number content blocks header n given h more) in
    let word_is : word c.turn.new.listed (n.given % 512) ≡ c.word-word.result = sym c.word-word.ensures in
    let next = next_number content blocks header n given c.turn.new.numbers c.turn.new.listed h turned.1 more c.turn.ensures.format in (
      turned.0,
      subst (λ (t : Bool). IsNextWord content blocks header given n h q c.frame_of.result t) (ap (λ (w : ℕ). has_page c.turn.new.numbers.format w) word_is ∙ ap (λ (f : Format). has_page f c.word-word.result) (sym c.format-format.ensures) ∙ sym c.has_page.ensures)
          (subst (λ (k : ℕ). IsNextWord content blocks header given n h q k (has_page c.turn.new.numbers.format (word c.turn.new.listed (n.given % 512)))) (ap (λ (w : ℕ). frame_of c.turn.new.numbers.format w) word_is ∙ ap (λ (f : Format). frame_of f c.word-word.result) (sym c.format-format.ensures) ∙ sym c.frame_of.ensures) next),
    )
