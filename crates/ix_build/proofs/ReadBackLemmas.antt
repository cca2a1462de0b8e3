-- Readers of runs that a store gave back, one behind the other.
use Rattle.std.proofs.Common.{◌≡◌, ◌⊎◌, ℕ, zero, suc, ◌+◌, ◌<◌, ◌↔◌, List, [], ◌∷◌, ◌++◌, length, map, All, refl, sym, ap, subst, ◌∙◌, inl, inr, ⊎_elim, arith}
use Rattle.std.specs.Prelude.{Option, Some, slice_get}
use Rattle.std.proofs.lemmas.List.{length-map}
use Rattle.std.proofs.lemmas.Option.{none-some, same_Some, slice_get_within}
use Rattle.ix_board.proofs.Closings.{got-map}
use Rattle.ix_board.proofs.Endings.{get-map}
use Rattle.ix_board.proofs.SliceGets.{get-within}
use Rattle.ix_run.specs.Heads.{Heading, heading_of}
use Rattle.ix_run.specs.Reading.{HasRead, IsSure, MayYield}
use Rattle.ix_run.specs.RunReaders.{heading_read}
use Rattle.ix_run.specs.Sources.{IsUnread}
use Rattle.ix_run.specs.RunHead.{RunHead}
use Rattle.ix_run.specs.RunReader.{RunReader}
use Rattle.ix_run.specs.RunTextError.{RunTextError}
use Rattle.ix_run.specs.RunTextError.TheVariants as text
use Rattle.ix_merge.specs.Pieces.{LeavesYieldedPart}
use Rattle.ix_merge.specs.Refusals.{IsRefusal}
use Rattle.ix_merge.specs.declared.merge_error.MergeError.{MergeError}
use Rattle.ix_merge.specs.declared.merge_error.MergeError.TheVariants as merge
use Rattle.ix_build.specs.BuildErrors.{MayComeOfMerge}
use Rattle.ix_build.specs.declared.build_error.BuildError.{BuildError}
use Rattle.ix_build.specs.declared.build_error.BuildError.TheVariants.{Thread, Spill, Write, Memory}
use Rattle.ix_build.specs.ReadBack.{AreReadBack, ComesOfMerging, ComesOfReading, GivesRunsBack, IsOfBytes, IsReadBack, LeavesReadBackPart, TellBytes, told_of_read_merge, told_of_reading}
use Rattle.ix_build.proofs.Consecutive.{same_at_each}
use Rattle.ix_pool.proofs.Sums.{all_from_get}

get_push_cases : {A : Type 0} (xs : List A) (x : A) (k : ℕ) (y : A) → slice_get (xs ++ x ∷ []) k ≡ Some y → (slice_get xs k ≡ Some y) ⊎ ((k ≡ length xs) × (x ≡ y))
get_push_cases [] x zero y at = inr (refl, same_Some x y at)
get_push_cases [] x (suc k) y at = absurd (none-some y at)
get_push_cases (z ∷ xs) x zero y at = inl at
get_push_cases (z ∷ xs) x (suc k) y at = ⊎_elim (λ h. inl h) (λ t. inr (ap suc t.0, t.1)) (get_push_cases xs x k y at)

module _ {R : Type 0} (remaining : R → Option (List ℕ)) where
  -- each reader is of the run whose head stands at its place
  abbrev pub AreReadOf : (ℕ → List ℕ → Type 0) → List RunHead → List (RunReader R) → Type 0
  AreReadOf back heads readers = (place : ℕ) (head : RunHead) (reader : RunReader R) → slice_get heads place ≡ Some head → slice_get readers place ≡ Some reader
      → IsReadBack remaining (back place) (heading_of head) reader

  pub none_read : (back : ℕ → List ℕ → Type 0) (heads : List RunHead) (readers : List (RunReader R)) → readers ≡ [] → AreReadOf back heads readers
  none_read back heads readers none place head reader at there = absurd (none-some reader (ap (λ (l : List (RunReader R)). slice_get l place) (sym none) ∙ there))

  -- what comes here may come there
  pub of_more : (here there : List ℕ → Type 0) (reader : RunReader R) → ((bytes : List ℕ) → here bytes → there bytes) → IsOfBytes remaining here reader → IsOfBytes remaining there reader
  of_more here there reader more is = record { bytes = is.bytes; came = more is.bytes is.came; spelled = is.spelled; sure = is.sure }

  -- bytes that may come back later may come back now
  pub read_before : (now later : List ℕ → Type 0) (heading : Heading) (reader : RunReader R) → ((bytes : List ℕ) → later bytes ↔ now bytes) → IsReadBack remaining later heading reader → IsReadBack remaining now heading reader
  read_before now later heading reader keeps read = record {
    headed = read.headed;
    unread = read.unread;
    told = λ tell. of_more later now reader (λ bytes. (keeps bytes).0) (read.told tell);
  }

  pub one_read : (back : ℕ → List ℕ → Type 0) (heads : List RunHead) (readers : List (RunReader R)) (head : RunHead) (reader : RunReader R) → slice_get heads (length readers) ≡ Some head
      → AreReadOf back heads readers → IsReadBack remaining (back (length readers)) (heading_of head) reader → AreReadOf back heads (readers ++ reader ∷ [])
  one_read back heads readers head reader at read more place other given there within =
      ⊎_elim
      (λ before. read place other given there before)
      (λ last.
      let same : head ≡ other = same_Some head other (sym at ∙ ap (slice_get heads) (sym last.0) ∙ there) in
      let here : IsReadBack remaining (back (length readers)) (heading_of other) given =
      subst (λ (r : RunReader R). IsReadBack remaining (back (length readers)) (heading_of other) r) last.1
      (subst (λ (h : RunHead). IsReadBack remaining (back (length readers)) (heading_of h) reader) same more) in
      subst (λ (k : ℕ). IsReadBack remaining (back k) (heading_of other) given) (sym last.0) here)
      (get_push_cases readers reader place given within)

  pub all_read : (back : ℕ → List ℕ → Type 0) (heads : List RunHead) (readers : List (RunReader R)) → length readers ≡ length heads → AreReadOf back heads readers → AreReadBack remaining back (map heading_of heads) readers
  all_read back heads readers long read = record {
    as_many = long ∙ sym (length-map heads heading_of);
    each = λ place heading reader at there.
        let t = got-map heading_of heads place heading at in
        subst (λ (h : Heading). IsReadBack remaining (back place) h reader) t.2 (read place t.0 reader t.1 there);
  }

  module _ (back : ℕ → List ℕ → Type 0) (headings : List Heading) (readers : List (RunReader R)) (read : AreReadBack remaining back headings readers) where
    pub heading_at : (place : ℕ) (reader : RunReader R) → slice_get readers place ≡ Some reader → (heading : Heading) × (slice_get headings place ≡ Some heading)
    heading_at place reader at =
        let within = slice_get_within readers place reader at in
        let many = read.as_many in
        get-within headings place (omega (arith, within, many))

    pub headings_read : map heading_read readers ≡ headings
    headings_read =
        let many = read.as_many in
        let told = length-map readers heading_read in
        same_at_each (map heading_read readers) headings (omega (arith, many, told))
        (λ k within.
        let heading = get-within headings k within in
        let reader = get-within readers k (omega (arith, within, many)) in
        get-map heading_read readers k reader.0 reader.1 ∙ ap (λ (h : Heading). Some h) (read.each k heading.0 reader.0 heading.1 reader.1).headed ∙ sym heading.1)

    pub all_unread : All (IsUnread HasRead) readers
    all_unread = all_from_get (IsUnread HasRead) readers (λ k reader at. let heading = heading_at k reader at in (read.each k heading.0 reader heading.1 at).unread)

    -- they are sure if the readers tell their bytes, and nothing but run texts came back
    pub each_sure : TellBytes remaining → GivesRunsBack back (length headings) → All (IsSure remaining) readers
    each_sure tell gives = all_from_get (IsSure remaining) readers
        (λ k reader at.
        let heading = heading_at k reader at in
        let is = (read.each k heading.0 reader heading.1 at).told tell in
        let text = gives k is.bytes (slice_get_within headings k heading.0 heading.1) is.came in
        is.sure text.first text.collection text.is)

    -- what an error left of what they may yield
    pub read_left : (before now : Option (List ℕ)) (if_whole told : Type 0) → (if_whole → told) → LeavesYieldedPart (MayYield remaining) heading_read readers before now if_whole
        → LeavesReadBackPart remaining back headings before now told
    read_left before now if_whole told told_so (inl keeps) = inl keeps
    read_left before now if_whole told told_so (inr part) = inr (record {
      readers = readers;
      read = read;
      written = record {
        pieces = part.pieces;
        yielded = part.yielded;
        whole = part.whole;
        concatenation = part.concatenation;
        text = part.text;
        of_whole = part.of_whole;
        gained = record { front = part.gained.front; cut = λ none. told_so (part.gained.cut none) };
      };
    })

-- what the lists show at a place is the same if they show the same
pub same_there : {A B : Type 0} (f : A → B) (xs ys : List A) (k : ℕ) (x y : A) → slice_get xs k ≡ Some x → slice_get ys k ≡ Some y → map f xs ≡ map f ys → f x ≡ f y
same_there {B = B} f xs ys k x y at there same = same_Some (f x) (f y) (sym (get-map f xs k x at) ∙ ap (λ (l : List B). slice_get l k) same ∙ get-map f ys k y there)

-- the heading that is kept at a place
pub kept_at : (heads : List RunHead) (k : ℕ) (head : RunHead) → slice_get heads k ≡ Some head → (place : ℕ) (heading : Heading) → (place ≡ k) × (heading ≡ heading_of head) → slice_get (map heading_of heads) place ≡ Some heading
kept_at heads k head at place heading is = ap (slice_get (map heading_of heads)) is.0 ∙ get-map heading_of heads k head at ∙ ap (λ (h : Heading). Some h) (sym is.1)

-- an error of reading is told as its place, or as want of memory
pub told_cases : (place : ℕ) (error : RunTextError) → (told_of_reading place error ≡ Memory) ⊎ (told_of_reading place error ≡ Spill place)
told_cases place text.Memory = inl refl
told_cases place text.Magic = inr refl
told_cases place (text.Number fault) = inr refl
told_cases place text.Text = inr refl
told_cases place text.Name = inr refl
told_cases place text.TermSize = inr refl
told_cases place text.TermOrder = inr refl
told_cases place text.ListLength = inr refl
told_cases place text.DocRange = inr refl
told_cases place text.Zero = inr refl
told_cases place text.PositionRange = inr refl
told_cases place text.StopIndexed = inr refl
told_cases place text.StopOrder = inr refl
told_cases place text.Extra = inr refl
told_cases place text.TooLarge = inr refl
told_cases place text.Read = inr refl
told_cases place text.Doubled = inr refl
told_cases place text.Failed = inr refl

-- what holds of want of memory, and of the place if it is told, holds of what is told of reading
pub told_holds : (P : BuildError → Type 0) (place : ℕ) (error : RunTextError) → P Memory → (told_of_reading place error ≡ Spill place → P (Spill place)) → P (told_of_reading place error)
told_holds P place error memory spill = ⊎_elim (λ is. subst P (sym is) memory) (λ is. subst P (sym is) (spill is)) (told_cases place error)

-- what a merge of runs that were read back comes to, where they are not refused for what they are
pub merge_told : (headings : List Heading) (error : MergeError RunTextError) → IsRefusal headings error → MayComeOfMerge error → ComesOfMerging (length headings) (told_of_read_merge error)
merge_told headings (merge.Gap number) refused may = absurd may
merge_told headings (merge.Overlap number) refused may = absurd may
merge_told headings merge.StopDiffers refused may = absurd may
merge_told headings (merge.Source place error) refused may = told_holds (ComesOfMerging (length headings)) place error tt (λ spills. refused.1)
merge_told headings merge.TooLarge refused may = absurd may
merge_told headings merge.Write refused may = tt
merge_told headings merge.Memory refused may = tt

-- a place below the count of reading
pub reading_within : (place count : ℕ) (error : BuildError) → place < count → ComesOfReading (place + 1) error → ComesOfReading count error
reading_within place count (Thread worker) within comes = comes
reading_within place count (Spill at) within comes = omega (arith, within, comes)
reading_within place count Write within comes = comes
reading_within place count Memory within comes = tt
