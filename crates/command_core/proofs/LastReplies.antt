-- The end of an operation's steps.
use Rattle.std.proofs.Common.{◌≡◌, inl, inr, Bool, true, false, List, [], ◌∷◌, length, refl, sym}
use Rattle.std.proofs.lemmas.Bool.{false≢true}
use Rattle.plain_machine.specs.Machine.{Hardware}
use Rattle.plain_machine.specs.Stands.{Stands}
use Rattle.plain_machine.specs.declared.event.Event.{Event}
use Rattle.plain_machine.specs.declared.reply.Reply.{Reply}
use Rattle.command_core.specs.Turns.{Situation, AreTurns, end_of}
use Rattle.command_core.specs.Runs.{AreStepped, core_steps, last_reply}
use Rattle.command_core.specs.declared.ending.Ended.{Ended}
use Rattle.command_core.specs.Points.{HasGone}
use Rattle.command_core.proofs.Walking.{point, walked}

-- what there is at the end stands for the last state
pub stands_at_end : (h : Hardware) (p : Situation) (events : List Event) (replies : List Reply) (through : List Situation) → Stands h p.shown p.content p.state → AreTurns h p events replies through → Stands h (end_of p through).shown (end_of p through).content (end_of p through).state
stands_at_end h p [] [] [] stands turns = stands
stands_at_end h p [] [] (q ∷ through) stands turns = absurd turns
stands_at_end h p [] (r ∷ replies) [] stands turns = absurd turns
stands_at_end h p [] (r ∷ replies) (q ∷ through) stands turns = absurd turns
stands_at_end h p (e ∷ events) [] [] stands turns = absurd turns
stands_at_end h p (e ∷ events) [] (q ∷ through) stands turns = absurd turns
stands_at_end h p (e ∷ events) (r ∷ replies) [] stands turns = absurd turns
stands_at_end h p (e ∷ events) (r ∷ replies) (q ∷ through) stands (turn, turns) = stands_at_end h q events replies through turn.stands turns

same_tests : (a b : Bool) → (a ≡ true → b ≡ true) → (b ≡ true → a ≡ true) → a ≡ b
same_tests true b to from = sym (to refl)
same_tests false true to from = absurd (false≢true (from refl))
same_tests false false to from = refl

-- from the situation after its event
pub has_gone : (h : Hardware) (p : Situation) (begun : Reply) (rest : List Reply) (ended : Ended) (through : List Situation) → Stands h p.shown p.content p.state → AreTurns h p (core_steps rest) rest through → AreStepped begun rest ended → HasGone h (point begun false p) ended (end_of p through).shown (end_of p through).content
has_gone h p begun rest ended through stands turns stepped =
    let walk = walked h p begun false rest through turns stepped.goes in
    record {
      steps = length rest;
      end = point (last_reply begun rest) walk.fails (end_of p through);
      are = walk.are;
      reply_is = stepped.last_is;
      failed_is = same_tests walk.fails ended.failed
          (λ is. elim (walk.tells.0 is) [ inl none ↦ absurd (false≢true none) | inr has ↦ stepped.failed.1 has ])
          (λ is. walk.tells.1 (inr (stepped.failed.0 is)));
      stands = stands_at_end h p (core_steps rest) rest through stands turns;
      frames = refl;
      content_is = refl;
      over = stepped.over;
    }
