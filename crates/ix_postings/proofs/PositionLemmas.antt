-- Positions read one behind another, and their tokens seen.
use Rattle.std.proofs.Common.{◌≡◌, ℕ, ◌+◌, ◌-◌, ◌<◌, ◌≤◌, List, [], ◌∷◌, ◌++◌, length, take, drop, get_or, refl, sym, ap, ap₂, ◌∙◌, subst, arith, append_assoc, append-nil, take-append-drop, inl, inr, ⊎_elim}
use Rattle.std.proofs.Math.Seq.{drop-append_seam}
use Rattle.std.proofs.lemmas.List.{map-append, drop_more, take_more, length-append}
use Rattle.ix_vbyte.specs.Code.{code_of}
use Rattle.ix_vbyte.specs.Gaps.{Ascends, gaps_from, gaps_of, next_after}
use Rattle.ix_vbyte.specs.Postings.{codes_of}
use Rattle.ix_vbyte.proofs.Gaps.{Ascends-push, next_after-push}
use Rattle.ix_postings.specs.CheckedLists.{BeginsWithPosition, MayFail, SeesPositions, StandNext}
use Rattle.ix_postings.specs.NextPostings.{numbers_at}
use Rattle.ix_postings.specs.SeenTokens.{SeesMore}
use Rattle.ix_postings.specs.declared.list_fault.ListFault.{ListFault}
use Rattle.ix_postings.proofs.Seen.{sees_both, sees_none}

-- bytes that end within a part of others end within those
pub fails_longer : (now part bytes whole : List ℕ) (fault : ListFault) → (length now < length part → length bytes < length whole) → MayFail now part fault → MayFail bytes whole fault
fails_longer now part bytes whole fault longer may = ⊎_elim inl (λ cut. inr (cut.0, longer cut.1)) may

-- ---- the position that stands behind others

pub ascends_middle : (low top : ℕ) (xs : List ℕ) (x : ℕ) (ys : List ℕ) → Ascends low top (xs ++ x ∷ ys) → (next_after low xs ≤ x) × (x < top)
ascends_middle low top [] x ys up = (up.0, up.1)
ascends_middle low top (y ∷ xs) x ys up = ascends_middle (y + 1) top xs x ys up.2

codes_middle : (low : ℕ) (xs : List ℕ) (x : ℕ) (ys : List ℕ)
    → codes_of (gaps_from low (xs ++ x ∷ ys)) ≡ codes_of (gaps_from low xs) ++ (code_of (x + 1 - next_after low xs) ++ codes_of (gaps_from (x + 1) ys))
codes_middle low [] x ys = refl
codes_middle low (y ∷ xs) x ys =
    ap (λ (codes : List ℕ). code_of (y + 1 - low) ++ codes) (codes_middle (y + 1) xs x ys)
    ∙ sym (append_assoc (code_of (y + 1 - low)) (codes_of (gaps_from (y + 1) xs)) (code_of (x + 1 - next_after (y + 1) xs) ++ codes_of (gaps_from (x + 1) ys)))

numbers_middle : (first : ℕ) (numbers xs : List ℕ) (x : ℕ) (ys : List ℕ)
    → numbers ++ numbers_at first (xs ++ x ∷ ys) ≡ (numbers ++ numbers_at first xs) ++ (first + x) ∷ numbers_at first ys
numbers_middle first numbers xs x ys =
    ap (λ (more : List ℕ). numbers ++ more) (map-append (λ position. first + position) xs (x ∷ ys)) ∙ sym (append_assoc numbers (numbers_at first xs) ((first + x) ∷ numbers_at first ys))

-- ---- the positions read so far

-- they come first, these bytes come behind them, and the next one is not below `next`
pub record AreTaken (bytes rest : List ℕ) (end next : ℕ) (read : List ℕ) : Type 0 where
  pub taken : bytes ≡ codes_of (gaps_of read) ++ rest
  pub ascend : Ascends 0 end read
  pub next_is : next ≡ next_after 0 read
  pub low : next ≤ end

-- where positions came that may, or the first bytes of such, these are the first of them
pub record AreFirst (admits old : List ℕ → Type 0) (first end count : ℕ) (bytes now : List ℕ) (next : ℕ) (read : List ℕ) : Type 0 where
  pub accepted : (missing numbers all rest : List ℕ) → StandNext admits old first end count (bytes ++ missing) numbers all rest
      → (read ≡ take (length read) all) × (now ++ missing ≡ codes_of (gaps_from next (drop (length read) all)) ++ rest)

pub taken_none : (bytes : List ℕ) (end : ℕ) → AreTaken bytes bytes end 0 []
taken_none bytes end = record { taken = refl; ascend = tt; next_is = refl; low = omega arith }

pub first_none : (admits old : List ℕ → Type 0) (first end count : ℕ) (bytes : List ℕ) → AreFirst admits old first end count bytes bytes 0 []
first_none admits old first end count bytes = record { accepted = λ missing numbers all rest stand. (refl, stand.spelled) }

pub codes_push : (read : List ℕ) (x next : ℕ) → next ≡ next_after 0 read → codes_of (gaps_of (read ++ x ∷ [])) ≡ codes_of (gaps_of read) ++ code_of (x + 1 - next)
codes_push read x next is =
    codes_middle 0 read x [] ∙ ap (λ (bytes : List ℕ). codes_of (gaps_of read) ++ bytes) (append-nil (code_of (x + 1 - next_after 0 read)))
    ∙ ap (λ (n : ℕ). codes_of (gaps_of read) ++ code_of (x + 1 - n)) (sym is)

pub taken_more : (bytes now new : List ℕ) (end next : ℕ) (read : List ℕ) (x : ℕ) → AreTaken bytes now end next read → now ≡ code_of (x + 1 - next) ++ new → next ≤ x → x < end
    → AreTaken bytes new end (x + 1) (read ++ x ∷ [])
taken_more bytes now new end next read x so_far spelled above below = record {
  taken =
      so_far.taken ∙ ap (λ (bs : List ℕ). codes_of (gaps_of read) ++ bs) spelled ∙ sym (append_assoc (codes_of (gaps_of read)) (code_of (x + 1 - next)) new)
      ∙ ap (λ (bs : List ℕ). bs ++ new) (sym (codes_push read x next so_far.next_is));
  ascend = Ascends-push 0 end read x so_far.ascend (omega (arith, so_far.next_is, above)) below;
  next_is = sym (next_after-push 0 read x);
  low = omega (arith, below);
}

pub seen_more : (admits old now new : List ℕ → Type 0) (first : ℕ) (read : List ℕ) (x : ℕ) → SeesMore admits old now (numbers_at first read) → SeesMore admits now new ((first + x) ∷ []) → SeesMore admits old new (numbers_at first (read ++ x ∷ []))
seen_more admits old now new first read x so_far one =
    subst (SeesMore admits old new) (sym (map-append (λ position. first + position) read (x ∷ []))) (sees_both admits old now new (numbers_at first read) ((first + x) ∷ []) so_far one)

-- the position that comes next
pub record IsAwaited (admits : List ℕ → Type 0) (first end next : ℕ) (bytes numbers : List ℕ) (x : ℕ) (rest : List ℕ) : Type 0 where
  pub above : next ≤ x
  pub below : x < end
  pub free : admits (numbers ++ (first + x) ∷ [])
  pub spelled : bytes ≡ code_of (x + 1 - next) ++ rest

module _ (admits : List ℕ → Type 0) (front_admitted : (front rest : List ℕ) → admits (front ++ rest) → admits front) (old now_seen : List ℕ → Type 0)
    (first end count : ℕ) (bytes now : List ℕ) (next : ℕ) (read : List ℕ)
    (so_far : AreTaken bytes now end next read) (seen : SeesMore admits old now_seen (numbers_at first read)) (front : AreFirst admits old first end count bytes now next read)
    (few : length read < count) where
  module _ (missing numbers all rest : List ℕ) (stand : StandNext admits old first end count (bytes ++ missing) numbers all rest) where
    pub within : length read < length all
    within = omega (arith, stand.counted, few)

    abbrev pub next_one : ℕ
    next_one = get_or all (length read) 0

    abbrev pub later : List ℕ
    later = codes_of (gaps_from (next_one + 1) (drop (length read + 1) all))

    split : all ≡ read ++ next_one ∷ drop (length read + 1) all
    split =
        sym (take-append-drop (length read) all)
        ∙ ap₂ (λ (xs ys : List ℕ). xs ++ ys) (sym (front.accepted missing numbers all rest stand).0) (drop_more all (length read) 0 within)

    pub whole : codes_of (gaps_of all) ≡ codes_of (gaps_of read) ++ (code_of (next_one + 1 - next) ++ later)
    whole =
        ap (λ (xs : List ℕ). codes_of (gaps_of xs)) split ∙ codes_middle 0 read next_one (drop (length read + 1) all)
        ∙ ap (λ (n : ℕ). codes_of (gaps_of read) ++ (code_of (next_one + 1 - n) ++ later)) (sym so_far.next_is)

    -- the tokens before it were seen
    pub held_now : now_seen (numbers ++ numbers_at first read)
    held_now = (seen numbers stand.held (front_admitted numbers (numbers_at first all) stand.free)).1

    pub awaited : IsAwaited admits first end next (now ++ missing) (numbers ++ numbers_at first read) next_one (later ++ rest)
    awaited =
        let ys = drop (length read + 1) all in
        let before : List ℕ = numbers ++ numbers_at first read in
        let up = ascends_middle 0 end read next_one ys (subst (Ascends 0 end) split stand.ascend) in
        let parts : numbers ++ numbers_at first all ≡ (before ++ (first + next_one) ∷ []) ++ numbers_at first ys =
        ap (λ (xs : List ℕ). numbers ++ numbers_at first xs) split ∙ numbers_middle first numbers read next_one ys ∙ sym (append_assoc before ((first + next_one) ∷ []) (numbers_at first ys)) in
        record {
          above = omega (arith, up.0, so_far.next_is);
          below = up.1;
          free = front_admitted (before ++ (first + next_one) ∷ []) (numbers_at first ys) (subst admits parts stand.free);
          spelled = (front.accepted missing numbers all rest stand).1
              ∙ ap (λ (xs : List ℕ). codes_of (gaps_from next xs) ++ rest) (drop_more all (length read) 0 within)
              ∙ append_assoc (code_of (next_one + 1 - next)) later rest;
        }

    -- the bytes end within it, and so within all
    pub fails_within : (fault : ListFault) → MayFail now (code_of (next_one + 1 - next)) fault → MayFail bytes (codes_of (gaps_of all)) fault
    fails_within fault may =
        let code : List ℕ = code_of (next_one + 1 - next) in
        let longer : length now < length code → length bytes < length (codes_of (gaps_of all)) =
        λ less. omega (arith, ap length so_far.taken, length-append (codes_of (gaps_of read)) now, ap length whole, length-append (codes_of (gaps_of read)) (code ++ later), length-append code later, less) in
        fails_longer now code bytes (codes_of (gaps_of all)) fault longer may

  pub first_more : (new : List ℕ) (read_x : ℕ)
      → ((numbers : List ℕ) (x : ℕ) (missing rest : List ℕ) → now_seen numbers → next ≤ x → x < end → admits (numbers ++ (first + x) ∷ []) → now ++ missing ≡ code_of (x + 1 - next) ++ rest
      → (read_x ≡ x) × (new ++ missing ≡ rest))
      → AreFirst admits old first end count bytes new (read_x + 1) (read ++ read_x ∷ [])
  first_more new read_x only = record {
    accepted = λ missing numbers all rest stand.
        let x = get_or all (length read) 0 in
        let is = awaited missing numbers all rest stand in
        let found = only (numbers ++ numbers_at first read) x missing (later missing numbers all rest stand ++ rest) (held_now missing numbers all rest stand) is.above is.below is.free is.spelled in
        let known = front.accepted missing numbers all rest stand in
        let lt : length read < length all = omega (arith, stand.counted, few) in
        let long : length (read ++ read_x ∷ []) ≡ length read + 1 = length-append read (read_x ∷ []) in (
          ap₂ (λ (xs ys : List ℕ). xs ++ ys) known.0 (ap (λ (y : ℕ). y ∷ []) found.0) ∙ sym (ap (λ (n : ℕ). take n all) long ∙ take_more all (length read) 0 lt),
          found.1 ∙ ap₂ (λ (y n : ℕ). codes_of (gaps_from (y + 1) (drop n all)) ++ rest) (sym found.0) (sym long),
        );
  }

-- ---- so many positions were gone over

-- Their tokens were seen, and these bytes are left; the next position is not below `next`.
pub record SeenSoFar (admits old now : List ℕ → Type 0) (first end count place : ℕ) (bytes rest : List ℕ) (next : ℕ) : Type 0 where
  pub read : List ℕ
  pub taken : AreTaken bytes rest end next read
  pub seen : SeesMore admits old now (numbers_at first read)
  pub front : AreFirst admits old first end count bytes rest next read
  pub counted : length read ≡ place

pub so_far_none : (admits old : List ℕ → Type 0) (first end count : ℕ) (bytes : List ℕ) → SeenSoFar admits old old first end count 0 bytes bytes 0
so_far_none admits old first end count bytes = record {
  read = [];
  taken = taken_none bytes end;
  seen = sees_none admits old;
  front = first_none admits old first end count bytes;
  counted = refl;
}

module _ (admits : List ℕ → Type 0) (front_admitted : (front rest : List ℕ) → admits (front ++ rest) → admits front) (old now : List ℕ → Type 0) (first end count place : ℕ) (bytes rest : List ℕ) (next : ℕ)
    (so_far : SeenSoFar admits old now first end count place bytes rest next) (few : place < count) where
  some_left : length so_far.read < count
  some_left = (let counted = so_far.counted in omega arith)

  pub so_far_more : (new : List ℕ → Type 0) (position size : ℕ) → BeginsWithPosition next end rest position size → SeesMore admits now new ((first + position) ∷ [])
      → ((numbers : List ℕ) (x : ℕ) (missing behind : List ℕ) → now numbers → next ≤ x → x < end → admits (numbers ++ (first + x) ∷ []) → rest ++ missing ≡ code_of (x + 1 - next) ++ behind
      → (position ≡ x) × (drop size rest ++ missing ≡ behind))
      → SeenSoFar admits old new first end count (place + 1) bytes (drop size rest) (position + 1)
  so_far_more new position size found one only = record {
    read = so_far.read ++ position ∷ [];
    taken = taken_more bytes rest (drop size rest) end next so_far.read position so_far.taken found.spelled found.above found.below;
    seen = seen_more admits old now new first so_far.read position so_far.seen one;
    front = first_more admits front_admitted old now first end count bytes rest next so_far.read so_far.taken so_far.seen so_far.front some_left (drop size rest) position only;
    counted = (let counted = so_far.counted in omega (arith, length-append so_far.read (position ∷ [])));
  }

  pub so_far_fails : (fault : ListFault)
      → ((numbers : List ℕ) (x : ℕ) (missing behind : List ℕ) → now numbers → next ≤ x → x < end → admits (numbers ++ (first + x) ∷ []) → rest ++ missing ≡ code_of (x + 1 - next) ++ behind
      → MayFail rest (code_of (x + 1 - next)) fault)
      → (missing numbers all behind : List ℕ) → StandNext admits old first end count (bytes ++ missing) numbers all behind → MayFail bytes (codes_of (gaps_of all)) fault
  so_far_fails fault only missing numbers all behind stand =
      let x = get_or all (length so_far.read) 0 in
      let is = awaited admits front_admitted old now first end count bytes rest next so_far.read so_far.taken so_far.seen so_far.front some_left missing numbers all behind stand in
      fails_within admits front_admitted old now first end count bytes rest next so_far.read so_far.taken so_far.seen so_far.front some_left missing numbers all behind stand fault
      (only (numbers ++ numbers_at first so_far.read) x missing _ (held_now admits front_admitted old now first end count bytes rest next so_far.read so_far.taken so_far.seen so_far.front some_left missing numbers all behind stand) is.above is.below is.free is.spelled)

-- all were gone over
module _ (admits old now : List ℕ → Type 0) (first end count place : ℕ) (bytes rest : List ℕ) (next : ℕ) (so_far : SeenSoFar admits old now first end count place bytes rest next) (all : place ≡ count) where
  size_is : length bytes - length rest ≡ length (codes_of (gaps_of so_far.read))
  size_is = omega (arith, ap length so_far.taken.taken, length-append (codes_of (gaps_of so_far.read)) rest)

  pub sees_positions : SeesPositions admits old now first end count bytes (length bytes - length rest)
  sees_positions = record {
    positions = so_far.read;
    ascend = so_far.taken.ascend;
    counted = so_far.counted ∙ all;
    spelled = so_far.taken.taken ∙ ap (λ (bs : List ℕ). codes_of (gaps_of so_far.read) ++ bs)
        (sym (ap (λ (n : ℕ). drop n bytes) size_is ∙ ap (drop (length (codes_of (gaps_of so_far.read)))) so_far.taken.taken ∙ drop-append_seam (codes_of (gaps_of so_far.read)) rest));
    sized = size_is;
    seen = so_far.seen;
  }

  pub so_far_short : length rest ≤ length bytes
  so_far_short = omega (arith, ap length so_far.taken.taken, length-append (codes_of (gaps_of so_far.read)) rest)
