-- One line after another is written.
use Rattle.std.proofs.Common.{◌≡◌, ◌∙◌, ◌++◌, ◌∷◌, [], append_assoc, arith}
use Rattle.std.specs.Prelude.{decimal, string_bytes}
use Rattle.std.proofs.lemmas.Grind.{common_steps}
use Rattle.ix_removals.specs.RemovalsText.{removals_text}
use Rattle.ix_removals.proofs.TextLemmas.{text_begun, text_ended, text_written}
use Rattle.ix_removals.proofs.removals.Removals.text.Goals as goal

pub loop-name-init : goal.loop-name-init
loop-name-init c =
    text_begun (string_bytes c.new-text.result) c.into_iter-name-iterator.result c.self.inside.bounds.entries c.args.self.now c.new-text.ensures.bytes c.into_iter-name-iterator.ensures.into_iter_gives.0 c.self.view_is

pub loop-name-preserved : goal.loop-name-preserved
loop-name-preserved c =
    let wrote : string_bytes c.write.new.self ≡ string_bytes c.loop-name.text ++ (decimal c.in-Some.bound.now ++ 9 ∷ (string_bytes c.in-Some.name.now ++ 10 ∷ [])) =
    c.in_ok-write.ensures.bytes ∙ first_of (simp append_assoc, cc, grind (arith, common_steps, append_assoc)) in
    text_written (string_bytes c.loop-name.text) (string_bytes c.write.new.self) c.loop-name.name-iterator c.next.new.self c.in-Some.name.now c.in-Some.bound.now (removals_text c.args.self.now) c.in-Some.ensures.steps wrote c.loop-name.invariant

pub returns-clause-text : goal.returns-clause-text
returns-clause-text c = text_ended (string_bytes c.loop-name.text) c.loop-name.name-iterator (removals_text c.args.self.now) c.loop-name.invariant c.in-None.ensures.steps.0
