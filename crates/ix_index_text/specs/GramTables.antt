-- What a writer holds of its terms, and of their grams: a coded list of the numbers of the terms for each gram.
use Rattle.std.specs.Prelude.{◌≡◌, ℕ, ◌+◌, ◌^◌, ◌<◌, ◌==◌, ◌&&◌, ◌↔◌, ◌⊎◌, Bool, false, List, [], ◌∷◌, ◌++◌, map, flat_map, Option, MatchOption, length, string_bytes, encode_utf8_all, IsUtf8, All, Contains, ⊤}
use Rattle.std.specs.List.{concat}
use Rattle.std.specs.HashMap.{HashMap, get}
use Rattle.std.specs.Ordering.{ordering_then, nat_cmp}
use Rattle.std.specs.declared.cmp.Ordering.{Ordering}
use Rattle.ix_text.specs.Parts.{GramEntry}
use Rattle.ix_vbyte.specs.Code.{code_of}
use Rattle.ix_vbyte.specs.Gaps.{Ascends, gaps_of, next_after}
use Rattle.ix_vbyte.specs.Postings.{codes_of}
use Rattle.ix_vbyte.specs.Texts.{counted}
use Rattle.ix_index_text.specs.declared.windows.Gram.{Gram}
use Rattle.ix_index_text.specs.declared.writer.grams.GramList.{GramList}
use Rattle.ix_index_text.specs.declared.writer.grams.Grams.{Grams}

-- the bytes of the three characters
abbrev pub text_of : Gram → List ℕ
text_of gram = encode_utf8_all (gram.first ∷ gram.second ∷ gram.third ∷ [])

-- whether two grams are one
abbrev pub gram_eq : Gram → Gram → Bool
gram_eq g h = (g.first == h.first) && ((g.second == h.second) && (g.third == h.third))

-- the order of grams: by their characters
abbrev pub gram_cmp : Gram → Gram → Ordering
gram_cmp g h = ordering_then (nat_cmp g.first h.first) (ordering_then (nat_cmp g.second h.second) (nat_cmp g.third h.third))

-- an entry of its gram and these numbers
abbrev pub entry : List ℕ → List ℕ → GramEntry
entry gram numbers = record { gram = gram; numbers = numbers }

-- the list is of these numbers
pub record IsListOf (list : GramList) (numbers : List ℕ) : Type 0 where
  pub count : list.count ≡ length numbers
  pub next : list.next ≡ next_after 0 numbers
  pub gaps : list.gaps.items ≡ codes_of (gaps_of numbers)

-- what a look-up finds lists the numbers, and where it finds nothing there are none
abbrev pub ListsNumbers : Option GramList → List ℕ → Type 0
ListsNumbers found numbers = MatchOption found (numbers ≡ []) (λ list. IsListOf list numbers × (0 < length numbers))

-- ascending numbers below this, exactly those that are wanted
pub record AreNumbersWith (top : ℕ) (wanted : ℕ → Type 0) (numbers : List ℕ) : Type 0 where
  pub ascend : Ascends 0 top numbers
  pub exact : (number : ℕ) → Contains numbers number ↔ wanted number

-- of a gram exactly the numbers are listed that the relation gives it
pub record HoldsNumbers {S : Type 0} (lists : HashMap Gram GramList S) (top : ℕ) (relation : List ℕ → ℕ → Type 0) (gram : Gram) : Type 0 where
  pub numbers : List ℕ
  pub listed : ListsNumbers (get gram_eq lists gram) numbers
  pub are : AreNumbersWith top (relation (text_of gram)) numbers

-- the lists are the relation between grams and numbers
pub record HoldsRelation {S : Type 0} (lists : HashMap Gram GramList S) (top : ℕ) (relation : List ℕ → ℕ → Type 0) : Type 0 where
  pub each : (gram : Gram) → HoldsNumbers lists top relation gram

-- These bytes are the texts of the terms, one behind another, and these numbers how many bytes each has.
pub record AreTexts (texts sizes : List ℕ) (terms : List (List ℕ)) : Type 0 where
  pub few : length terms < 2 ^ 32
  pub joined : texts ≡ concat terms
  pub sized : sizes ≡ map length terms
  pub utf8 : All IsUtf8 terms

-- the terms are held, and so their grams
pub record HoldsGrams (grams : Grams) (terms : List (List ℕ)) : Type 0 where
  pub are : AreTexts (string_bytes grams.texts) grams.sizes.items terms

-- ascending numbers, the others and this one
pub record AddsTo (number : ℕ) (numbers more : List ℕ) : Type 0 where
  pub ascend : Ascends 0 (number + 1) more
  pub same : (other : ℕ) → Contains more other ↔ (Contains numbers other ⊎ (number ≡ other))

-- under the gram the number is listed too, and under each other gram what was
pub record Notes {S : Type 0} (old new : HashMap Gram GramList S) (gram : Gram) (number : ℕ) : Type 0 where
  pub under : (numbers : List ℕ) → ListsNumbers (get gram_eq old gram) numbers → Ascends 0 (number + 1) numbers
      → (more : List ℕ) × ListsNumbers (get gram_eq new gram) more × AddsTo number numbers more
  pub others : (other : Gram) → gram_eq gram other ≡ false → get gram_eq new other ≡ get gram_eq old other

-- each entry is that of the gram and of the list at its place
abbrev pub AreListed : List (Gram × GramList) → List GramEntry → Type 0
AreListed [] [] = ⊤
AreListed [] (entry ∷ entries) = ⊥
AreListed (l ∷ lists) [] = ⊥
AreListed (l ∷ lists) (entry ∷ entries) = (entry.gram ≡ text_of l.0) × IsListOf l.1 entry.numbers × AreListed lists entries

-- what stands in GRAMS of a gram and its list
abbrev pub listed_bytes : Gram → GramList → List ℕ
listed_bytes gram list = counted (text_of gram) ++ code_of list.count ++ list.gaps.items

-- and of grams and their lists
abbrev pub all_listed_bytes : List (Gram × GramList) → List ℕ
all_listed_bytes lists = flat_map (λ l. listed_bytes l.0 l.1) lists
