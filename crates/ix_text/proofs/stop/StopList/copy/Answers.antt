use Rattle.std.proofs.Common.{◌≡◌, ℕ, ◌<◌, ◌+◌, List, get_or, take, ◌++◌, ◌∷◌, [], length, map, string_bytes, ap, ap₂, sym, subst, ◌∙◌, arith, All}
use Rattle.std.proofs.lemmas.List.{length-map, map-append, take_all, take_more}
use Rattle.std.proofs.lemmas.List.Elements.{All-weaker}
use Rattle.ix_text.specs.ByteOrder.{IsAscending}
use Rattle.ix_text.specs.StopSets.{HasTermSize}
use Rattle.ix_text.specs.Terms.{IsTerm}
use Rattle.ix_text.proofs.stop.StopList.copy.Goals as goal

-- the texts of one term more
map_take_more : {A : Type 0} (f : A → List ℕ) (xs : List A) (i : ℕ) (x : A) → i < length xs → x ≡ get_or xs i x → map f (take (i + 1) xs) ≡ map f (take i xs) ++ f x ∷ []
map_take_more f xs i x within is = ap (map f) (take_more xs i x within ∙ ap (λ y. take i xs ++ y ∷ []) (sym is)) ∙ map-append f (take i xs) (x ∷ [])

pub loop-term-preserved : goal.loop-term-preserved
loop-term-preserved c =
    ap (map string_bytes) c.in_ok-push.ensures.items
    ∙ map-append string_bytes c.loop-term.terms.items (c.in_ok-from_str.field-0 ∷ [])
    ∙ ap₂ (λ texts text. texts ++ text ∷ []) c.loop-term.invariant (c.in_ok-from_str.ensures.ok ∙ c.deref.ensures)
    ∙ sym (map_take_more string_bytes c.terms-given.result.now c.loop-term.term-index c.term-item.result c.loop-term-test.true c.term-item.is)

-- all terms are copied
copied : (c : goal.After-loop-term) → map string_bytes c.loop-term.terms.items ≡ c.args.self.now
copied c = c.loop-term.invariant ∙ ap (map string_bytes) (take_all c.loop-term.term-index c.terms-given.result.now c.loop-term-test.false) ∙ c.terms-given.ensures.value

pub from_sorted-requires-clause-few : goal.from_sorted-requires-clause-few
from_sorted-requires-clause-few c = omega (arith, length-map c.loop-term.terms.items string_bytes, ap length (copied c), c.terms-given.ensures.lawful.few)

pub from_sorted-requires-clause-ascending : goal.from_sorted-requires-clause-ascending
from_sorted-requires-clause-ascending c = subst IsAscending (sym (copied c)) c.terms-given.ensures.lawful.ascending

pub from_sorted-requires-clause-sizes : goal.from_sorted-requires-clause-sizes
from_sorted-requires-clause-sizes c =
    subst (All HasTermSize) (sym (copied c))
    (All-weaker IsTerm HasTermSize (λ text is. record { some_byte = is.some_byte; short = is.short }) c.args.self.now c.terms-given.ensures.lawful.terms)
