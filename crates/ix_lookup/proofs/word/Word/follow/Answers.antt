use Rattle.std.proofs.Common.{◌≡◌, ◌≤◌, ◌+◌, ◌-◌, List, ℕ, length, take, drop, nat_eq, sym, ap, ◌∙◌, arith}
use Rattle.std.proofs.lemmas.List.{take_rest}
use Rattle.std.specs.List.{common_prefix_len}
use Rattle.std.specs.Cmp.Lexicographic.{slice_cmp}
use Rattle.std.specs.Ordering.{nat_cmp, is_lt}
use Rattle.ix_lookup.proofs.FrontLemmas.{common_on, common_past, order_on, order_past}
use Rattle.ix_lookup.proofs.word.Word.follow.Goals as goal

pub returns-then-shared-self-clause-moved : goal.returns-then-shared-self-clause-moved
returns-then-shared-self-clause-moved c = λ before at within.
    let word = c.args.self.now.text.now in
    record {
      common = at.common ∙ sym (common_past before c.args.own.now word c.args.shared within (omega (arith, at.common)));
      below = at.below ∙ ap is_lt (sym (order_past before c.args.own.now word c.args.shared within (omega (arith, at.common))));
    }

pub returns-clause-moved : goal.returns-clause-moved
returns-clause-moved c = λ before at within.
    let word = c.args.self.now.text.now in
    let on : c.args.shared ≤ common_prefix_len nat_eq before word = omega (arith, at.common) in
    let bytes = c.as_bytes.ensures.value in
    let rest : take (length c.as_bytes.result.now - c.args.shared) (drop c.args.shared c.as_bytes.result.now) ≡ drop c.args.shared word =
    take_rest c.as_bytes.result.now c.args.shared ∙ ap (drop c.args.shared) bytes in
    record {
      common = ap (λ n. c.args.shared + n) (c.shared_front.ensures.value ∙ ap (common_prefix_len nat_eq c.args.own.now) rest) ∙ sym (common_on before c.args.own.now word c.args.shared within on);
      below = c.is_lt-self.ensures ∙ ap is_lt (c.cmp.ensures ∙ ap (λ (bytes : List ℕ). slice_cmp nat_cmp bytes c.args.own.now) rest ∙ sym (order_on before c.args.own.now word c.args.shared within on));
    }
