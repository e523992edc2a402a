use Rattle.std.proofs.Common.{◌≤◌, rules, length, string_bytes, List, ℕ, Bor, IsTrue}
use Rattle.command_words.proofs.ImageParts.{decided, differs}
use Rattle.command_words.proofs.swsusp_image.spelled.are.Goals as goal

pub returns-then-equal : goal.returns-then-equal
returns-then-equal c =
    let long : length c.args.these.now ≤ length c.args.words.now = search rules in
    let holds : IsTrue c.equal.result = search rules in
    decided string_bytes (λ (text : Bor (List ℕ)). text.now) c.args.words.now c.split_at.result.0.now c.split_at.result.1.now c.args.these.now c.args.those.now long
    c.equal.result c.split_at.ensures.front c.split_at.ensures.back c.equal.ensures c.equal-then-equal.result holds c.equal-then-equal.ensures

pub returns-else-equal : goal.returns-else-equal
returns-else-equal c =
    let long : length c.args.these.now ≤ length c.args.words.now = search rules in
    let fails : IsTrue c.equal.result → ⊥ = search rules in
    differs string_bytes (λ (text : Bor (List ℕ)). text.now) c.args.words.now c.split_at.result.0.now c.split_at.result.1.now c.args.these.now c.args.those.now long
    c.equal.result c.split_at.ensures.front c.split_at.ensures.back c.equal.ensures fails
