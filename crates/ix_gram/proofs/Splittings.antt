-- The greedy search: the leftmost place of an inner piece loses no splitting of the term.
use Rattle.std.proofs.Common.{◌≡◌, ℕ, suc, ◌+◌, ◌-◌, ◌<◌, ◌≤◌, List, [], ◌∷◌, ◌++◌, length, take, drop, refl, sym, ◌∙◌, ap, subst, arith, append_assoc, length-append, Bool, true, false, None, Some}
use Rattle.std.proofs.lemmas.List.Elements.{All-cons, All-head, All-nil, All-tail}
use Rattle.std.proofs.lemmas.List.{append-nil, append_cancel_left, drop-append-le, drop_at, take-append-drop}
use Rattle.std.proofs.lemmas.Str.{IsUtf8-append, IsUtf8-take, IsCharBoundary-from_drop}
use Rattle.std.specs.Prelude.{All, IsUtf8, IsTrue, ◌↔◌}
use Rattle.std.specs.Bool.{MatchBool}
use Rattle.std.specs.Str.Pattern.{FindsText, FindsTextPrefix, FindsTextSuffix, HasSuffixMatch, LacksTextAt, SplitsAroundMatch, StripsPrefix}
use Rattle.ix_gram.specs.Patterns.{Matches, in_a_row}

-- the rest is the pieces in a row, each behind a gap with Q
abbrev pub Follows : (List ℕ → Type 0) → List ℕ → List (List ℕ) → Type 0
Follows Q rest [] = rest ≡ []
Follows Q rest (piece ∷ pieces) = (gap : List ℕ) × (after : List ℕ) × Q gap × (rest ≡ gap ++ (piece ++ after)) × Follows Q after pieces

-- any bytes
abbrev pub Anything : List ℕ → Type 0
Anything gap = Unit {0}

-- gaps of characters are gaps
pub loosened : (rest : List ℕ) (pieces : List (List ℕ)) → Follows IsUtf8 rest pieces → Follows Anything rest pieces
loosened rest [] h = h
loosened rest (piece ∷ pieces) (gap, after, text, e, more) = (gap, after, tt, e, loosened after pieces more)

-- what comes before the first piece may be longer
widened : (front rest piece : List ℕ) (pieces : List (List ℕ)) → Follows Anything rest (piece ∷ pieces) → Follows Anything (front ++ rest) (piece ∷ pieces)
widened front rest piece pieces (gap, after, any, e, more) = (front ++ gap, after, tt, ap (λ r. front ++ r) e ∙ sym (append_assoc front gap (piece ++ after)), more)

-- where the piece stands nowhere, nothing follows
none_follows : (piece rest : List ℕ) (pieces : List (List ℕ)) → ((i : ℕ) → i ≤ length rest → LacksTextAt piece rest i) → Follows Anything rest (piece ∷ pieces) → ⊥
none_follows piece rest pieces lacks (gap, after, any, e, more) =
    let at_gap : drop (length gap) rest ≡ piece ++ after = ap (drop (length gap)) e ∙ drop_at gap (piece ++ after) (length gap) refl in
    let size : length rest ≡ length gap + length (piece ++ after) = ap length e ∙ length-append gap (piece ++ after) in
    lacks (length gap) (omega arith) after at_gap

-- behind the leftmost place of the piece, a further piece follows if it follows behind any place
greedy : (piece rest next : List ℕ) (pieces : List (List ℕ)) (i j : ℕ) → FindsText piece rest (Some (i, j)) → Follows Anything rest (piece ∷ (next ∷ pieces)) → Follows Anything (drop j rest) (next ∷ pieces)
greedy piece rest next pieces i j found (gap, after, any, e, more) =
    let at_gap : drop (length gap) rest ≡ piece ++ after = ap (drop (length gap)) e ∙ drop_at gap (piece ++ after) (length gap) refl in
    let first : (length gap < i → ⊥) = λ below. found.0 (length gap) below after at_gap in
    let low : i ≤ length gap = omega arith in
    let ends : j ≡ i + length piece = found.1.ends in
    let size : length (gap ++ piece) ≡ length gap + length piece = length-append gap piece in
    let within : j ≤ length (gap ++ piece) = omega arith in
    let whole : rest ≡ (gap ++ piece) ++ after = e ∙ sym (append_assoc gap piece after) in
    let cut : drop j rest ≡ drop j (gap ++ piece) ++ after = ap (drop j) whole ∙ drop-append-le j (gap ++ piece) after within in
    let P : List ℕ → Type 0 = λ r. Follows Anything r (next ∷ pieces) in
    subst P (sym cut) (widened (drop j (gap ++ piece)) after next pieces more)

-- the same with the last piece behind the middle ones
greedy_before_last : (piece rest : List ℕ) (middle : List (List ℕ)) (last : List ℕ) (i j : ℕ) → FindsText piece rest (Some (i, j)) → Follows Anything rest (piece ∷ (middle ++ last ∷ [])) → Follows Anything (drop j rest) (middle ++ last ∷ [])
greedy_before_last piece rest [] last i j = greedy piece rest last [] i j
greedy_before_last piece rest (next ∷ middle) last i j = greedy piece rest next (middle ++ last ∷ []) i j

-- a front piece, and the others behind gaps of characters, are a splitting of the term
from_front : (term piece rest : List ℕ) (pieces : List (List ℕ)) → term ≡ piece ++ rest → Follows IsUtf8 rest pieces → Matches term (piece ∷ pieces)
from_front term piece rest [] e h = record {
  gaps = [];
  count = refl;
  characters = All-nil IsUtf8;
  spelled = e ∙ ap (λ r. piece ++ r) h ∙ append-nil piece;
}
from_front term piece rest (next ∷ pieces) e (gap, after, text, is, more) =
    let further : Matches (next ++ after) (next ∷ pieces) = from_front (next ++ after) next after pieces refl more in record {
      gaps = gap ∷ further.gaps;
      count = ap suc further.count;
      characters = All-cons IsUtf8 gap further.gaps text further.characters;
      spelled = e ∙ ap (λ r. piece ++ r) (is ∙ ap (λ r. gap ++ r) further.spelled);
    }

-- the pieces in a row begin with the first, and the others follow
row_from_front : (piece : List ℕ) (pieces gaps : List (List ℕ)) → length (piece ∷ pieces) ≡ suc (length gaps) → All IsUtf8 gaps → (rest : List ℕ) × (in_a_row (piece ∷ pieces) gaps ≡ piece ++ rest) × Follows IsUtf8 rest pieces
row_from_front piece [] [] count all = ([], sym (append-nil piece), refl)
row_from_front piece [] (gap ∷ gaps) count all = absurd (omega arith)
row_from_front piece (next ∷ pieces) [] count all = absurd (omega arith)
row_from_front piece (next ∷ pieces) (gap ∷ gaps) count all =
    let further = row_from_front next pieces gaps (omega arith) (All-tail IsUtf8 gap gaps all) in
    (gap ++ in_a_row (next ∷ pieces) gaps, refl, (gap, further.0, All-head IsUtf8 gap gaps all, ap (λ r. gap ++ r) further.1, further.2))

-- a splitting of the term is a front piece, and the others behind gaps
pub to_front : (term piece : List ℕ) (pieces : List (List ℕ)) → Matches term (piece ∷ pieces) → (rest : List ℕ) × (term ≡ piece ++ rest) × Follows IsUtf8 rest pieces
to_front term piece pieces h =
    let row = row_from_front piece pieces h.gaps h.count h.characters in
    (row.0, h.spelled ∙ row.1, row.2)

-- the pieces that are left tell of the rest what the pattern tells of the term
pub record Tells (term : List ℕ) (pattern : List (List ℕ)) (rest : List ℕ) (pieces : List (List ℕ)) : Type 0 where
  pub sound : Follows IsUtf8 rest pieces → Matches term pattern
  pub complete : Matches term pattern → Follows Anything rest pieces

-- the front piece stands at the front
pub begins : (term piece rest : List ℕ) (pieces : List (List ℕ)) → StripsPrefix (FindsTextPrefix piece) term rest → Tells term (piece ∷ pieces) rest pieces
begins term piece rest pieces (n, found, is, size) =
    let e : term ≡ piece ++ rest = found.1 ∙ ap (λ r. piece ++ r) (sym is) in record {
      sound = from_front term piece rest pieces e;
      complete = λ h.
          let front = to_front term piece pieces h in
          let same : front.0 ≡ rest = append_cancel_left piece front.0 rest (sym front.1 ∙ e) in
          let P : List ℕ → Type 0 = λ r. Follows Anything r pieces in
          subst P same (loosened front.0 pieces front.2);
    }

-- an inner piece was found
pub goes_on : (term : List ℕ) (pattern : List (List ℕ)) (rest piece : List ℕ) (middle : List (List ℕ)) (last gap after : List ℕ) → SplitsAroundMatch (FindsText piece) rest gap after → IsUtf8 rest → IsUtf8 piece → IsUtf8 after → Tells term pattern rest (piece ∷ (middle ++ last ∷ [])) → Tells term pattern after (middle ++ last ∷ [])
goes_on term pattern rest piece middle last gap after (i, j, found, front, back, order, size, left) whole_text piece_text after_text tells =
    let split : drop i rest ≡ piece ++ drop j rest = found.1.split in
    let fits : length gap ≤ length rest = omega (arith, ap length (sym (take-append-drop i rest)), length-append (take i rest) (drop i rest), ap length front) in
    let behind : IsUtf8 (drop i rest) = let Q : List ℕ → Type 0 = IsUtf8 in subst Q (sym split) (IsUtf8-append piece (drop j rest) piece_text (subst Q back after_text)) in
    let text : IsUtf8 gap = let Q : List ℕ → Type 0 = IsUtf8 in subst Q (sym front) (IsUtf8-take rest i whole_text (IsCharBoundary-from_drop rest i (omega arith) behind)) in
    let is : rest ≡ gap ++ (piece ++ after) = sym (take-append-drop i rest) ∙ ap (λ r. r ++ drop i rest) (sym front) ∙ ap (λ r. gap ++ r) (split ∙ ap (λ r. piece ++ r) (sym back)) in
    let P : List ℕ → Type 0 = λ r. Follows Anything r (middle ++ last ∷ []) in record {
      sound = λ h. tells.sound (gap, after, text, is, h);
      complete = λ h. subst P (sym back) (greedy_before_last piece rest middle last i j found (tells.complete h));
    }

-- an inner piece is missing
pub stuck : (term : List ℕ) (pattern : List (List ℕ)) (rest piece : List ℕ) (pieces : List (List ℕ)) → FindsText piece rest None → Tells term pattern rest (piece ∷ pieces) → Matches term pattern → ⊥
stuck term pattern rest piece pieces lacks tells h = none_follows piece rest pieces lacks (tells.complete h)

-- the last piece decides
pub decided : (term : List ℕ) (pattern : List (List ℕ)) (rest last : List ℕ) (r : Bool) → IsUtf8 rest → MatchBool r (HasSuffixMatch (FindsTextSuffix last) rest) (FindsTextSuffix last rest None) → Tells term pattern rest (last ∷ []) → IsTrue r ↔ Matches term pattern
decided term pattern rest last true text (n, found, within, boundary) tells =
    let k : ℕ = length rest - n in
    let is : rest ≡ take k rest ++ (last ++ []) = found.1 ∙ ap (λ r. take k rest ++ r) (sym (append-nil last)) in
    (λ _. tells.sound (take k rest, [], IsUtf8-take rest k text boundary, is, refl), λ _. refl)
decided term pattern rest last false text lacks tells = (
  λ h. absurd (cc),
  λ h. absurd (
      let (gap, after, any, is, none) = tells.complete h in
      lacks gap (is ∙ ap (λ r. gap ++ (last ++ r)) none ∙ ap (λ r. gap ++ r) (append-nil last))
      ),
)
