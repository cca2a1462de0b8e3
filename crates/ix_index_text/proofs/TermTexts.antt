-- The texts of terms, one behind another, and their grams as the terms are gone over.
use Rattle.std.proofs.Common.{◌≡◌, ℕ, ◌+◌, ◌<◌, ◌≤◌, ◌^◌, true, is_err, OnOk, Result, Ok, Err, List, [], ◌∷◌, ◌++◌, length, take, drop, get_or, IsUtf8, refl, sym, ap, subst, ◌∙◌, arith, append_assoc, append-nil, length-append}
use Rattle.std.proofs.lemmas.List.{drop_more, get_or-map, length-map, length-take, map-append, take_all, take_more}
use Rattle.std.proofs.lemmas.List.Elements.{All-contains, All-push, Contains-get_or}
use Rattle.std.proofs.lemmas.Str.{IsCharBoundary-from_take, IsUtf8-drop}
use Rattle.std.proofs.Math.Seq.{drop-append_seam, take-append_seam}
use Rattle.std.specs.Prelude.{IsCharBoundary}
use Rattle.std.specs.HashMap.{HashMap, IsEmpty}
use Rattle.std.specs.Map.{lookup}
use Rattle.ix_text.proofs.AscendingLists.{contains_none}
use Rattle.std.specs.List.{concat}
use Rattle.ix_index_text.specs.Grams.{IsGramOfTerm}
use Rattle.ix_index_text.specs.GramTables.{AreTexts, HoldsRelation, ListsNumbers, gram_eq, text_of}
use Rattle.ix_index_text.proofs.HeldLemmas.{none_related}
use Rattle.ix_index_text.specs.declared.windows.Gram.{Gram}
use Rattle.ix_index_text.specs.declared.writer.grams.GramList.{GramList}

-- ---- one term more

concat-push : (terms : List (List ℕ)) (term : List ℕ) → concat (terms ++ term ∷ []) ≡ concat terms ++ term
concat-push [] term = append-nil term
concat-push (t ∷ terms) term = ap (λ (bytes : List ℕ). t ++ bytes) (concat-push terms term) ∙ sym (append_assoc t (concat terms) term)

pub as_many : (texts sizes : List ℕ) (terms : List (List ℕ)) → AreTexts texts sizes terms → length sizes ≡ length terms
as_many texts sizes terms are = ap length are.sized ∙ length-map terms length

pub texts_more : (texts sizes : List ℕ) (terms : List (List ℕ)) (term : List ℕ) → AreTexts texts sizes terms → length terms + 1 < 2 ^ 32 → IsUtf8 term → AreTexts (texts ++ term) (sizes ++ length term ∷ []) (terms ++ term ∷ [])
texts_more texts sizes terms term are few text = record {
  few = omega (arith, few, length-append terms (term ∷ []));
  joined = ap (λ (bytes : List ℕ). bytes ++ term) are.joined ∙ sym (concat-push terms term);
  sized = ap (λ (ns : List ℕ). ns ++ length term ∷ []) are.sized ∙ sym (map-append length terms (term ∷ []));
  utf8 = All-push IsUtf8 terms term are.utf8 text;
}

-- ---- the terms are gone over

-- The grams of the terms below this place are held, and the texts of the others are left.
pub record AreNoted {S : Type 0} (lists : HashMap Gram GramList S) (rest : List ℕ) (number place : ℕ) (terms : List (List ℕ)) : Type 0 where
  pub left : rest ≡ concat (drop place terms)
  pub counted : number ≡ place
  pub held : HoldsRelation lists place (IsGramOfTerm (take place terms))

-- of no term no gram is held
relation_none : {S : Type 0} (lists : HashMap Gram GramList S) → IsEmpty lists → HoldsRelation lists 0 (IsGramOfTerm [])
relation_none lists empty = record {
  each = λ gram. record {
    numbers = [];
    listed = (let P : List (Gram × GramList) → Type 0 = λ entries. ListsNumbers (lookup (gram_eq gram) entries) [] in subst P (sym empty) refl);
    are = record { ascend = tt; exact = λ n. (λ has. absurd (contains_none n has), λ is. absurd (none_related (text_of gram) n is)) };
  };
}

pub noted_none : {S : Type 0} (lists : HashMap Gram GramList S) (texts sizes : List ℕ) (terms : List (List ℕ)) → IsEmpty lists → AreTexts texts sizes terms → AreNoted lists texts 0 0 terms
noted_none lists texts sizes terms empty are = record { left = are.joined; counted = refl; held = relation_none lists empty }

module _ {S : Type 0} (lists : HashMap Gram GramList S) (texts sizes rest : List ℕ) (number place : ℕ) (terms : List (List ℕ)) (are : AreTexts texts sizes terms) (noted : AreNoted lists rest number place terms) (within : place < length sizes) where
  abbrev term : List ℕ
  term = get_or terms place []

  abbrev later : List ℕ
  later = concat (drop (place + 1) terms)

  here : place < length terms
  here = omega (arith, within, as_many texts sizes terms are)

  is_text : IsUtf8 term
  is_text = All-contains IsUtf8 terms term are.utf8 (Contains-get_or terms place [] here)

  split : rest ≡ term ++ later
  split = noted.left ∙ ap concat (drop_more terms place [] here)

  pub size_is : get_or sizes place 0 ≡ length term
  size_is = ap (λ (ns : List ℕ). get_or ns place 0) are.sized ∙ get_or-map length terms place [] 0 here

  pub front_is : take (get_or sizes place 0) rest ≡ term
  front_is = ap (λ (n : ℕ). take n rest) size_is ∙ ap (take (length term)) split ∙ take-append_seam term later

  pub back_is : drop (get_or sizes place 0) rest ≡ later
  back_is = ap (λ (n : ℕ). drop n rest) size_is ∙ ap (drop (length term)) split ∙ drop-append_seam term later

  pub splits : IsUtf8 rest → IsCharBoundary rest (get_or sizes place 0)
  splits text =
      IsCharBoundary-from_take rest (get_or sizes place 0) text (omega (arith, size_is, ap length split, length-append term later)) (subst IsUtf8 (sym front_is) is_text)

  pub text_left : IsUtf8 rest → IsUtf8 (drop (get_or sizes place 0) rest)
  text_left text = IsUtf8-drop rest (get_or sizes place 0) text (splits text)

  -- the terms before it
  pub before : (number ≡ length (take place terms)) × HoldsRelation lists number (IsGramOfTerm (take place terms))
  before = (
    omega (arith, noted.counted, length-take place terms, here),
    subst (λ (n : ℕ). HoldsRelation lists n (IsGramOfTerm (take place terms))) (sym noted.counted) noted.held,
  )

  pub noted_one : (new : HashMap Gram GramList S) (front back : List ℕ) → front ≡ take (get_or sizes place 0) rest → back ≡ drop (get_or sizes place 0) rest → HoldsRelation new (number + 1) (IsGramOfTerm (take place terms ++ front ∷ []))
      → AreNoted new back (number + 1) (place + 1) terms
  noted_one new front back front_of back_of held = record {
    left = back_of ∙ back_is;
    counted = omega (arith, noted.counted);
    held =
        subst (λ (ts : List (List ℕ)). HoldsRelation new (place + 1) (IsGramOfTerm ts)) (ap (λ (t : List ℕ). take place terms ++ t ∷ []) (front_of ∙ front_is) ∙ sym (take_more terms place [] here))
        (subst (λ (n : ℕ). HoldsRelation new (n + 1) (IsGramOfTerm (take place terms ++ front ∷ []))) noted.counted held);
  }

pub noted_all : {S : Type 0} (lists : HashMap Gram GramList S) (texts sizes rest : List ℕ) (number place : ℕ) (terms : List (List ℕ)) → AreTexts texts sizes terms → AreNoted lists rest number place terms → length sizes ≤ place → place ≤ length sizes
    → HoldsRelation lists (length terms) (IsGramOfTerm terms)
noted_all lists texts sizes rest number place terms are noted all within =
    let many = as_many texts sizes terms are in
    let full : place ≡ length terms = omega (arith, many) in
    subst (λ (n : ℕ). HoldsRelation lists n (IsGramOfTerm terms)) full (subst (λ (ts : List (List ℕ)). HoldsRelation lists place (IsGramOfTerm ts)) (take_all place terms (omega (arith, many))) noted.held)

-- ---- a refusal

pub nothing_granted : {T E : Type 0} (P : Type 0) (result : Result T E) → is_err result ≡ true → OnOk result P
nothing_granted P (Ok value) refused = absurd (cc)
nothing_granted P (Err error) refused = tt
