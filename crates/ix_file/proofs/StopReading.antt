-- STOP is read term by term.
use Rattle.std.proofs.Common.{◌≡◌, ℕ, ◌^◌, ◌<◌, ◌≤◌, List, [], ◌∷◌, ◌++◌, length, flat_map, All, refl, sym, ◌∙◌, subst, arith, length-append}
use Rattle.std.proofs.lemmas.List.{take_at}
use Rattle.std.proofs.lemmas.List.Elements.{All-take, All-push, All-nil}
use Rattle.ix_text.specs.ByteOrder.{IsAscending}
use Rattle.ix_text.specs.StopSets.{IsStopSet}
use Rattle.ix_text.specs.Terms.{IsTerm}
use Rattle.ix_vbyte.specs.Code.{code_of}
use Rattle.ix_vbyte.specs.Texts.{counted}
use Rattle.ix_vbyte.proofs.Texts.{counted-apart}
use Rattle.ix_vbyte.proofs.Values.{some_code_byte}
use Rattle.ix_index_text.specs.Sections.{stop_section}
use Rattle.ix_file.proofs.AscendingLemmas.{ascending_front, ascending_none}
use Rattle.ix_file.proofs.Continuing.{has_next, read_more}

pub some_counted_byte : (text : List ℕ) → 0 < length (counted text)
some_counted_byte text = omega (arith, some_code_byte (length text), length-append (code_of (length text)) text)

-- a front of a list of which each keeps a rule keeps it
pub All-front : {X : Type 0} (P : X → Type 0) (xs ys : List X) → All P (xs ++ ys) → All P xs
All-front P xs ys all = subst (All P) (take_at xs ys (length xs) refl) (All-take P (length xs) (xs ++ ys) all)

-- a front of a stop set is one
pub stop_front : (xs ys : List (List ℕ)) → IsStopSet (xs ++ ys) → IsStopSet xs
stop_front xs ys is = record {
  few = let few : length (xs ++ ys) ≤ 2 ^ 28 = is.few in omega (arith, few, length-append xs ys);
  ascending = ascending_front xs ys is.ascending;
  terms = All-front IsTerm xs ys is.terms;
}

pub no_stop_term : IsStopSet []
no_stop_term = record { few = omega arith; ascending = ascending_none; terms = All-nil IsTerm }

pub stop_of_none : (section : List ℕ) → section ≡ stop_section [] ++ section
unfolding stop_section
stop_of_none section = refl

pub stop_more : (section : List ℕ) (done : List (List ℕ)) (term left rest : List ℕ) → section ≡ stop_section done ++ left → left ≡ counted term ++ rest → section ≡ stop_section (done ++ term ∷ []) ++ rest
unfolding stop_section
stop_more section done term left rest e is = read_more counted section done term left rest e is

-- where no term may follow the ones that were read, the section is that of no stop set
pub no_stop : (section : List ℕ) (done : List (List ℕ)) (left : List ℕ) → section ≡ stop_section done ++ left → 0 < length left
    → ((term rest : List ℕ) → IsStopSet (done ++ term ∷ []) → left ≡ counted term ++ rest → ⊥)
    → (stop : List (List ℕ)) → IsStopSet stop → section ≡ stop_section stop → ⊥
unfolding stop_section
no_stop section done left e some refused stop is same =
    let next = has_next counted counted-apart some_counted_byte done stop left (sym same ∙ e) some in
    refused next.next (flat_map counted next.more) (stop_front (done ++ next.next ∷ []) next.more (subst IsStopSet next.whole is)) next.stands

-- a term that may follow
pub stop_push : (stop : List (List ℕ)) (term : List ℕ) → IsStopSet stop → length stop < 2 ^ 28 → IsAscending (stop ++ term ∷ []) → IsTerm term → IsStopSet (stop ++ term ∷ [])
stop_push stop term is few above term_is = record {
  few = omega (arith, length-append stop (term ∷ []));
  ascending = above;
  terms = All-push IsTerm stop term is.terms term_is;
}
