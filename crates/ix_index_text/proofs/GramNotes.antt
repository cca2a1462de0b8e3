-- The list of a gram grows by the numbers of the terms that have it.
use Rattle.std.proofs.Common.{◌≡◌, ℕ, ◌+◌, ◌-◌, ◌<◌, ◌≤◌, ◌==◌, ◌⊎◌, Bool, true, false, List, [], ◌∷◌, ◌++◌, length, Contains, Option, None, Some, Result, Ok, Err, OnOk, IsUtf8, inl, inr, refl, sym, ap, ap₂, subst, ◌∙◌, arith, append-nil, length-append}
use Rattle.std.proofs.lemmas.Cmp.{nat_eq_equiv, on_equiv, and_equiv}
use Rattle.std.proofs.lemmas.Grind.{flat_map-append}
use Rattle.std.proofs.lemmas.List.Elements.{Contains-append_left, Contains-append_right, Contains-append_cases}
use Rattle.std.specs.Cmp.{IsEquivalence, unsigned_Decides, first_so, second_so}
use Rattle.std.specs.HashMap.{HashMap, get, Updates}
use Rattle.ix_text.proofs.AscendingLists.{contains_first, contains_later, contains_cases, contains_none}
use Rattle.ix_vbyte.specs.Code.{code_of}
use Rattle.ix_vbyte.specs.Gaps.{Ascends, gaps_of, next_after}
use Rattle.ix_vbyte.specs.Postings.{codes_of}
use Rattle.ix_vbyte.proofs.Gaps.{Ascends-push, Ascends-wider, gaps_from-push, length-Ascends, next_after-push}
use Rattle.ix_index_text.specs.Grams.{IsGramOfTerm}
use Rattle.ix_index_text.specs.GramTables.{AddsTo, HoldsNumbers, HoldsRelation, IsListOf, ListsNumbers, Notes, gram_eq, text_of}
use Rattle.ix_index_text.specs.WindowPairs.{gram_of, pairs_of_term}
use Rattle.ix_index_text.specs.declared.windows.Gram.{Gram}
use Rattle.ix_index_text.specs.declared.writer.grams.GramList.{GramList}
use Rattle.ix_index_text.specs.declared.windows.GramPair.{GramPair}
use Rattle.ix_index_text.proofs.HeldLemmas.{SeenToo, more_related}
use Rattle.ix_index_text.proofs.PairGrams.{gram_tells}
use Rattle.ix_index_text.proofs.TermPairs.{pair}

-- ---- grams are told by their characters

pub gram_eq_equiv : IsEquivalence gram_eq
gram_eq_equiv =
    and_equiv (on_equiv (λ (g : Gram). g.first) nat_eq_equiv)
    (and_equiv (on_equiv (λ (g : Gram). g.second) nat_eq_equiv) (on_equiv (λ (g : Gram). g.third) nat_eq_equiv))

pub gram_exact : (g h : Gram) → gram_eq g h ≡ true → g ≡ h
gram_exact g h e =
    let rest = second_so (g.first == h.first) _ e in
    let a = (unsigned_Decides g.first h.first).0 (first_so (g.first == h.first) _ e) in
    let b = (unsigned_Decides g.second h.second).0 (first_so (g.second == h.second) _ rest) in
    let c = (unsigned_Decides g.third h.third).0 (second_so (g.second == h.second) _ rest) in
    λ i. record { first = a i; second = b i; third = c i }

-- the bytes tell the gram
pub text_tells : (g h : Gram) → text_of g ≡ text_of h → g ≡ h
text_tells g h same =
    let (a, b, c) = gram_tells (pair 0 g.first g.second g.third) (pair 0 h.first h.second h.third) same in
    λ i. record { first = a i; second = b i; third = c i }

-- ---- one number more

pub codes_of_gaps-push : (numbers : List ℕ) (number : ℕ) → codes_of (gaps_of (numbers ++ number ∷ [])) ≡ codes_of (gaps_of numbers) ++ code_of (number + 1 - next_after 0 numbers)
codes_of_gaps-push numbers number =
    let gap = number + 1 - next_after 0 numbers in
    ap codes_of (gaps_from-push 0 numbers number)
    ∙ flat_map-append code_of (gaps_of numbers) (gap ∷ [])
    ∙ ap (λ bytes. codes_of (gaps_of numbers) ++ bytes) (append-nil (code_of gap))

-- the last number is above all others
pub last_listed : (low number : ℕ) (numbers : List ℕ) → low ≤ number → Ascends low (number + 1) numbers → number < next_after low numbers → Contains numbers number
last_listed low number [] above up last = absurd (omega (arith, above, last))
last_listed low number (x ∷ []) above up last = (0, omega arith, let below = up.1 in omega (arith, below, last))
last_listed low number (x ∷ y ∷ numbers) above up last =
    let below = up.2.0 in
    let within = up.2.1 in
    contains_later x (y ∷ numbers) number (last_listed (x + 1) number (y ∷ numbers) (omega (arith, below, within)) up.2 last)

-- a number that is listed already
pub adds_again : (number : ℕ) (numbers : List ℕ) → Ascends 0 (number + 1) numbers → number < next_after 0 numbers → AddsTo number numbers numbers
adds_again number numbers up last = record {
  ascend = up;
  same = λ other. (
    λ has. inl has,
    λ has. elim has [ inl listed ↦ listed | inr is ↦ subst (λ (n : ℕ). Contains numbers n) is (last_listed 0 number numbers (omega arith) up last) ],
  );
}

only_one : (x n : ℕ) → Contains (x ∷ []) n → x ≡ n
only_one x n has = elim (contains_cases x [] n has) [ inl first ↦ first | inr later ↦ absurd (contains_none n later) ]

pub ascends_more : (number : ℕ) (numbers : List ℕ) → Ascends 0 (number + 1) numbers → next_after 0 numbers ≤ number → Ascends 0 (number + 1) (numbers ++ number ∷ [])
ascends_more number numbers up behind = Ascends-push 0 (number + 1) numbers number up behind (omega arith)

pub adds_last : (number : ℕ) (numbers : List ℕ) → Ascends 0 (number + 1) numbers → next_after 0 numbers ≤ number → AddsTo number numbers (numbers ++ number ∷ [])
adds_last number numbers up behind = record {
  ascend = ascends_more number numbers up behind;
  same = λ other. (
    λ has. elim (Contains-append_cases numbers (number ∷ []) other has) [ inl before ↦ inl before | inr new ↦ inr (only_one number other new) ],
    λ has.
        elim has [
          | inl before ↦ Contains-append_left numbers (number ∷ []) other before
          | inr is ↦ Contains-append_right numbers (number ∷ []) other (0, omega arith, is)
        ],
  );
}

-- and there is room for it
pub room_for : (number : ℕ) (numbers : List ℕ) → Ascends 0 (number + 1) numbers → next_after 0 numbers ≤ number → length numbers ≤ number
room_for number numbers up behind =
    let fits = length-Ascends 0 (number + 1) (numbers ++ number ∷ []) (omega arith) (ascends_more number numbers up behind) in
    omega (arith, fits, length-append numbers (number ∷ []))

pub listed_last : (old new : GramList) (number : ℕ) (numbers : List ℕ) → IsListOf old numbers → new.count ≡ old.count + 1 → new.next ≡ number + 1 → new.gaps.items ≡ old.gaps.items ++ code_of (number + 1 - old.next)
    → IsListOf new (numbers ++ number ∷ [])
listed_last old new number numbers is count next gaps = record {
  count = let was = is.count in omega (arith, was, count, length-append numbers (number ∷ []));
  next = next ∙ sym (next_after-push 0 numbers number);
  gaps = gaps ∙ ap₂ (λ (bytes : List ℕ) (n : ℕ). bytes ++ code_of (number + 1 - n)) is.gaps is.next ∙ sym (codes_of_gaps-push numbers number);
}

-- ---- one gram of a term more

none_listed : (found : Option GramList) (numbers : List ℕ) → found ≡ None → ListsNumbers found numbers → numbers ≡ []
none_listed found numbers none listed = let P : Option GramList → Type 0 = λ o. ListsNumbers o numbers in subst P none listed

some_listed : (found : Option GramList) (list : GramList) (numbers : List ℕ) → found ≡ Some list → ListsNumbers found numbers → IsListOf list numbers × (0 < length numbers)
some_listed found list numbers is listed = let P : Option GramList → Type 0 = λ o. ListsNumbers o numbers in subst P is listed

-- the number itself is among them
some_more : (number : ℕ) (numbers more : List ℕ) → AddsTo number numbers more → 0 < length more
some_more number numbers more adds = let (k, within, is) = (adds.same number).1 (inr refl) in omega (arith, within)

pub list_wanted : (found : Option GramList) (list : GramList) (number : ℕ) → found ≡ Some list → ((numbers : List ℕ) × ListsNumbers found numbers × Ascends 0 (number + 1) numbers) → (numbers : List ℕ) × IsListOf list numbers × Ascends 0 (number + 1) numbers
list_wanted found list number is (numbers, listed, up) = (numbers, (some_listed found list numbers is listed).0, up)

module _ {S : Type 0} (old new : HashMap Gram GramList S) (gram : Gram) (number : ℕ) (list : GramList) (updates : Updates gram_eq old new gram (Some list)) where
  now_listed : (numbers more : List ℕ) → IsListOf list more → AddsTo number numbers more → ListsNumbers (get gram_eq new gram) more
  now_listed numbers more is adds = let P : Option GramList → Type 0 = λ o. ListsNumbers o more in subst P (sym updates.1) (is, some_more number numbers more adds)

  kept : (other : Gram) → gram_eq gram other ≡ false → get gram_eq new other ≡ get gram_eq old other
  kept other differ = updates.2 other differ

  -- a gram that has a list
  pub notes_more : (was : GramList) → get gram_eq old gram ≡ Some was
      → ((numbers : List ℕ) → IsListOf was numbers → Ascends 0 (number + 1) numbers → (more : List ℕ) × IsListOf list more × AddsTo number numbers more)
      → Notes old new gram number
  notes_more was found grows = record {
    under = λ numbers listed up. let (more, is, adds) = grows numbers (some_listed (get gram_eq old gram) was numbers found listed).0 up in (more, now_listed numbers more is adds, adds);
    others = kept;
  }

  -- a gram that has none
  pub notes_first : (none : GramList) → get gram_eq old gram ≡ None → IsListOf none []
      → ((numbers : List ℕ) → IsListOf none numbers → Ascends 0 (number + 1) numbers → (more : List ℕ) × IsListOf list more × AddsTo number numbers more)
      → Notes old new gram number
  notes_first none absent empty grows = record {
    under = λ numbers listed up.
        let (more, is, adds) = grows [] empty tt in
        (more, now_listed [] more is adds, subst (λ (ns : List ℕ). AddsTo number ns more) (sym (none_listed (get gram_eq old gram) numbers absent listed)) adds);
    others = kept;
  }

-- ---- the windows of a term so far

module _ {S : Type 0} (old new : HashMap Gram GramList S) (gram : Gram) (number : ℕ) (notes : Notes old new gram number) (terms : List (List ℕ)) (seen : List GramPair) where
  abbrev window : GramPair
  window = pair number gram.first gram.second gram.third

  module _ (other : Gram) (was : HoldsNumbers old (number + 1) (SeenToo terms seen) other) where
    widened : (n : ℕ) → SeenToo terms seen (text_of other) n → SeenToo terms (seen ++ window ∷ []) (text_of other) n
    widened n has =
        elim has [
          | inl is ↦ inl is
          | inr h ↦ inr (record { pair = h.pair; among = Contains-append_left seen (window ∷ []) h.pair h.among; spelled = h.spelled; numbered = h.numbered })
        ]

    narrowed : (n : ℕ) → SeenToo terms (seen ++ window ∷ []) (text_of other) n → SeenToo terms seen (text_of other) n ⊎ ((text_of gram ≡ text_of other) × (number ≡ n))
    narrowed n has =
        elim has [
          | inl is ↦ inl (inl is)
          | inr h ↦
              elim (Contains-append_cases seen (window ∷ []) h.pair h.among) [
                | inl before ↦ inl (inr (record { pair = h.pair; among = before; spelled = h.spelled; numbered = h.numbered }))
                | inr last ↦
                    let is : window ≡ h.pair = elim (contains_cases window [] h.pair last) [ inl first ↦ first | inr later ↦ absurd (contains_none h.pair later) ] in
                    inr (ap gram_of is ∙ h.spelled, ap (λ (p : GramPair). p.number) is ∙ h.numbered)
              ]
        ]

    kept_numbers : gram_eq gram other ≡ false → HoldsNumbers new (number + 1) (SeenToo terms (seen ++ window ∷ [])) other
    kept_numbers differ = record {
      numbers = was.numbers;
      listed = let P : Option GramList → Type 0 = λ o. ListsNumbers o was.numbers in subst P (sym (notes.others other differ)) was.listed;
      are = record {
        ascend = was.are.ascend;
        exact = λ n. (
          λ has. widened n ((was.are.exact n).0 has),
          λ has.
              elim (narrowed n has) [
                | inl before ↦ (was.are.exact n).1 before
                | inr (same, is) ↦
                    let one : gram ≡ other = text_tells gram other same in
                    let tie : gram_eq gram other ≡ true = subst (λ (g : Gram). gram_eq gram g ≡ true) one (gram_eq_equiv.refl gram) in
                    cc
              ],
        );
      };
    }

    more_numbers : gram ≡ other → HoldsNumbers new (number + 1) (SeenToo terms (seen ++ window ∷ [])) other
    more_numbers same =
        let at : ListsNumbers (get gram_eq old gram) was.numbers = subst (λ (g : Gram). ListsNumbers (get gram_eq old g) was.numbers) (sym same) was.listed in
        let (more, listed, adds) = notes.under was.numbers at was.are.ascend in
        record {
          numbers = more;
          listed = subst (λ (g : Gram). ListsNumbers (get gram_eq new g) more) same listed;
          are = record {
            ascend = adds.ascend;
            exact = λ n. (
              λ has.
                  elim ((adds.same n).0 has) [
                    | inl before ↦ widened n ((was.are.exact n).0 before)
                    | inr is ↦ inr (record { pair = window; among = Contains-append_right seen (window ∷ []) window (contains_first window []); spelled = ap text_of same; numbered = is })
                  ],
              λ has. elim (narrowed n has) [ inl before ↦ (adds.same n).1 (inl ((was.are.exact n).1 before)) | inr (_, is) ↦ (adds.same n).1 (inr is) ],
            );
          };
        }

  pub one_window_more : HoldsRelation old (number + 1) (SeenToo terms seen) → HoldsRelation new (number + 1) (SeenToo terms (seen ++ pair number gram.first gram.second gram.third ∷ []))
  one_window_more holds = record { each = λ other. by other (gram_eq gram other) refl }
    where
      by : (other : Gram) (b : Bool) → gram_eq gram other ≡ b → HoldsNumbers new (number + 1) (SeenToo terms (seen ++ window ∷ [])) other
      by other true tie = more_numbers other (holds.each other) (gram_exact gram other tie)
      by other false differ = kept_numbers other (holds.each other) differ

-- ---- from one term to the next

module _ {S : Type 0} (lists : HashMap Gram GramList S) (terms : List (List ℕ)) (number : ℕ) where
  pub windows-none : HoldsRelation lists number (IsGramOfTerm terms) → HoldsRelation lists (number + 1) (SeenToo terms [])
  windows-none holds = record {
    each = λ gram.
        let was = holds.each gram in
        record {
          numbers = was.numbers;
          listed = was.listed;
          are = record {
            ascend = Ascends-wider 0 number (number + 1) was.numbers (omega arith) was.are.ascend;
            exact = λ n. (λ has. inl ((was.are.exact n).0 has), λ has. elim has [ inl is ↦ (was.are.exact n).1 is | inr h ↦ absurd (contains_none h.pair h.among) ]);
          };
        };
  }

  pub windows-all : (term : List ℕ) → number ≡ length terms → IsUtf8 term → HoldsRelation lists (number + 1) (SeenToo terms (pairs_of_term number term)) → HoldsRelation lists (number + 1) (IsGramOfTerm (terms ++ term ∷ []))
  windows-all term counted text holds = record {
    each = λ gram.
        let was = holds.each gram in
        record {
          numbers = was.numbers;
          listed = was.listed;
          are = record {
            ascend = was.are.ascend;
            exact = λ n.
                let same = more_related terms number term counted text (text_of gram) n in
                (λ has. same.0 ((was.are.exact n).0 has), λ has. (was.are.exact n).1 (same.1 has));
          };
        };
  }

  -- what is asked of the list of a gram before it is noted
  pub wanted_of : (seen : List GramPair) (gram : Gram) → HoldsRelation lists (number + 1) (SeenToo terms seen) → (numbers : List ℕ) × ListsNumbers (get gram_eq lists gram) numbers × Ascends 0 (number + 1) numbers
  wanted_of seen gram holds = let was = holds.each gram in (was.numbers, was.listed, was.are.ascend)

  -- what is seen is every window of the term
  pub windows-whole : (term : List ℕ) → number ≡ length terms → IsUtf8 term → (seen : List GramPair) → seen ≡ pairs_of_term number term → HoldsRelation lists (number + 1) (SeenToo terms seen) → HoldsRelation lists (number + 1) (IsGramOfTerm (terms ++ term ∷ []))
  windows-whole term counted text seen whole holds = windows-all term counted text (subst (λ (ps : List GramPair). HoldsRelation lists (number + 1) (SeenToo terms ps)) whole holds)

pub noted_more : {T E P Q : Type 0} (result : Result T E) → (P → Q) → OnOk result P → OnOk result Q
noted_more (Ok value) f p = f p
noted_more (Err error) f p = tt
