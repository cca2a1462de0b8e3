-- Ascending numbers and postings, and what is left of them from a number on.
use Rattle.std.proofs.Common.{◌≡◌, ℕ, zero, suc, ◌+◌, ◌-◌, ◌^◌, ◌<◌, ◌≤◌, ◌↔◌, ◌⊎◌, inl, inr, cond, List, [], ◌∷◌, ◌++◌, Option, None, Some, length, Contains, All, refl, sym, ap, ◌∙◌, subst, arith, min}
use Rattle.std.proofs.lemmas.Bool.{cases_lt, lt-ltb, le-ltb}
use Rattle.std.proofs.lemmas.List.Elements.{All-head, All-tail, Contains-push, Contains-push_cases, Contains-append_left}
use Rattle.std.specs.Option.{option_map, option_to_list}
use Rattle.std.specs.Prelude.{MatchOption, IfSome, IfNone, IsSomeAnd, slice_get, drop}
use Rattle.ix_text.proofs.AscendingLists.{contains_first, contains_later, contains_cases, contains_none, contains_map}
use Rattle.ix_text.specs.Parts.{HasPosition}
use Rattle.ix_file.specs.Gaps.{Ascends, next_after}
use Rattle.ix_file.proofs.Gaps.{Ascends-lower, Ascends-push, next_after-push}
use Rattle.ix_file.specs.Postings.{Posting, documents_of, ArePostings, IsPosting}
use Rattle.ix_file.specs.Walking.{from_document}
use Rattle.ix_query.specs.Streams.{Pairs, Have, IsFirst, Reaches, IsSameFrom, AreAll, from_number, first_of}

-- ---- numbers from one on

from_below : (low n : ℕ) (ns : List ℕ) → n < low → from_number low (n ∷ ns) ≡ from_number low ns
from_below low n ns h = ap (λ b. cond b (from_number low ns) (n ∷ ns)) (lt-ltb n low h)

from_here : (low n : ℕ) (ns : List ℕ) → low ≤ n → from_number low (n ∷ ns) ≡ n ∷ ns
from_here low n ns h = ap (λ b. cond b (from_number low ns) (n ∷ ns)) (le-ltb n low h)

-- the numbers of an ascending list lie in its range
pub contains_range : (bottom top : ℕ) (xs : List ℕ) (n : ℕ) → Ascends bottom top xs → Contains xs n → (bottom ≤ n) × (n < top)
contains_range bottom top [] n up has = absurd (contains_none n has)
contains_range bottom top (x ∷ xs) n up has = elim (contains_cases x xs n has) [
  | inl same ↦ (omega arith, omega arith)
  | inr later ↦ let range = contains_range (x + 1) top xs n up.2 later in (omega arith, range.1)
]

pub ascends_from : (low bottom top : ℕ) (xs : List ℕ) → Ascends bottom top xs → Ascends bottom top (from_number low xs)
ascends_from low bottom top [] up = tt
ascends_from low bottom top (x ∷ xs) up = elim (cases_lt x low) [
  | inl below ↦ rw (from_below low x xs below) (Ascends-lower (x + 1) bottom top (from_number low xs) (omega arith) (ascends_from low (x + 1) top xs up.2))
  | inr above ↦ rw (from_here low x xs above) up
]

-- what is left of an ascending list is what is not below the number
pub contains_from : (low bottom top : ℕ) (xs : List ℕ) (n : ℕ) → Ascends bottom top xs → Contains (from_number low xs) n ↔ (Contains xs n × (low ≤ n))
contains_from low bottom top [] n up = (λ has. absurd (contains_none n has), λ h. absurd (contains_none n h.0))
contains_from low bottom top (x ∷ xs) n up = elim (cases_lt x low) [
  | inl below ↦
      let more = contains_from low (x + 1) top xs n up.2 in
      rw (from_below low x xs below) (
        λ has. (contains_later x xs n (more.0 has).0, (more.0 has).1),
        λ h. elim (contains_cases x xs n h.0) [ inl same ↦ absurd (let at = h.1 in omega arith) | inr later ↦ more.1 (later, h.1) ],
      )
  | inr above ↦
      rw (from_here low x xs above)
      (λ has. (has, let range = contains_range x top (x ∷ xs) n (omega arith, up.1, up.2) has in omega arith), λ h. h.0)
]

pub first_is : (bottom : ℕ) (xs : List ℕ) → Ascends bottom (2 ^ 32 - 1) xs → MatchOption (first_of xs) ((n place : ℕ) → ¬ (Contains xs n)) (IsFirst (λ n place. Contains xs n))
first_is bottom [] up = λ n place has. contains_none n has
first_is bottom (x ∷ xs) up = record {
  holds = (0, contains_first x xs);
  first = λ n place has. (contains_range x (2 ^ 32 - 1) (x ∷ xs) n (omega arith, up.1, up.2) has).0;
  below = up.1;
}

-- a list that was passed up to a number was asked for it
pub reaches_number : (bottom low : ℕ) (old new : List ℕ) (answer : Option ℕ) → Ascends bottom (2 ^ 32 - 1) old → new ≡ from_number low old → answer ≡ first_of new → Reaches (λ n place. Contains old n) (λ n place. Contains new n) low answer
reaches_number bottom low old new answer up passed is = record {
  kept = λ n place. subst (λ (ns : List ℕ). Contains ns n ↔ (Contains old n × (low ≤ n))) (sym passed) (contains_from low bottom (2 ^ 32 - 1) old n up);
  found = subst (λ (a : Option ℕ). MatchOption a ((n place : ℕ) → ¬ (Contains new n)) (IsFirst (λ n place. Contains new n))) (sym is)
      (first_is bottom new (subst (λ (ns : List ℕ). Ascends bottom (2 ^ 32 - 1) ns) (sym passed) (ascends_from low bottom (2 ^ 32 - 1) old up)));
}

-- the number at hand and those behind it, from a number on
pub at_hand : (low n : ℕ) (ns : List ℕ) → low ≤ n → n ∷ ns ≡ from_number low (n ∷ ns)
at_hand low n ns h = sym (from_here low n ns h)

-- ---- postings from a document on

from_below_document : (low : ℕ) (posting : Posting) (postings : List Posting) → posting.0 < low → from_document low (posting ∷ postings) ≡ from_document low postings
from_below_document low posting postings h = ap (λ b. cond b (from_document low postings) (posting ∷ postings)) (lt-ltb posting.0 low h)

from_this_document : (low : ℕ) (posting : Posting) (postings : List Posting) → low ≤ posting.0 → from_document low (posting ∷ postings) ≡ posting ∷ postings
from_this_document low posting postings h = ap (λ b. cond b (from_document low postings) (posting ∷ postings)) (le-ltb posting.0 low h)

pub documents_from : (low : ℕ) (postings : List Posting) → documents_of (from_document low postings) ≡ from_number low (documents_of postings)
documents_from low [] = refl
documents_from low (posting ∷ postings) = elim (cases_lt posting.0 low) [
  | inl below ↦ rw (from_below_document low posting postings below, from_below low posting.0 (documents_of postings) below) (documents_from low postings)
  | inr above ↦ rw (from_this_document low posting postings above, from_here low posting.0 (documents_of postings) above)
]

-- what is left of postings that ascend by their documents is what is not below the document
pub contains_from_document : (low bottom top : ℕ) (postings : List Posting) (posting : Posting) → Ascends bottom top (documents_of postings) → Contains (from_document low postings) posting ↔ (Contains postings posting × (low ≤ posting.0))
contains_from_document low bottom top [] posting up = (λ has. absurd (contains_none posting has), λ h. absurd (contains_none posting h.0))
contains_from_document low bottom top (first ∷ rest) posting up = elim (cases_lt first.0 low) [
  | inl below ↦
      let more = contains_from_document low (first.0 + 1) top rest posting up.2 in
      rw (from_below_document low first rest below) (
        λ has. (contains_later first rest posting (more.0 has).0, (more.0 has).1),
        λ h. elim (contains_cases first rest posting h.0) [
          | inl same ↦ let at = h.1 in let e : first.0 ≡ posting.0 = ap (λ (p : Posting). p.0) same in absurd (omega arith)
          | inr later ↦ more.1 (later, h.1)
        ],
      )
  | inr above ↦
      rw (from_this_document low first rest above)
      (λ has. (has, let range = contains_range first.0 top (documents_of (first ∷ rest)) posting.0 (omega arith, up.1, up.2) (contains_map (λ (p : Posting). p.0) (first ∷ rest) posting has) in omega arith), λ h. h.0)
]

each_from : (low : ℕ) (P : Posting → Type 0) (postings : List Posting) → All P postings → All P (from_document low postings)
each_from low P [] all = all
each_from low P (first ∷ rest) all = elim (cases_lt first.0 low) [
  | inl below ↦ rw (from_below_document low first rest below) (each_from low P rest (All-tail P first rest all))
  | inr above ↦ rw (from_this_document low first rest above) all
]

pub are_from : (low bottom top : ℕ) (postings : List Posting) → ArePostings bottom top postings → ArePostings bottom top (from_document low postings)
are_from low bottom top postings are = record {
  documents = subst (λ (ns : List ℕ). Ascends bottom top ns) (sym (documents_from low postings)) (ascends_from low bottom top (documents_of postings) are.documents);
  each = each_from low (IsPosting top) postings are.each;
}

pub has_first : (positions : List ℕ) → 0 < length positions → (position : ℕ) × Contains positions position
has_first [] some = absurd (omega arith)
has_first (x ∷ xs) some = (x, contains_first x xs)

-- the first document that is left, and that documents are among the range
pub first_document_is : (bottom : ℕ) (postings : List Posting) → ArePostings bottom (2 ^ 32 - 1) postings → MatchOption (option_map (λ (p : Posting). p.0) (first_of postings)) ((n place : ℕ) → ¬ (HasPosition postings n place)) (IsFirst (HasPosition postings))
first_document_is bottom [] are = λ n place has. contains_none (n, has.positions) has.among
first_document_is bottom (first ∷ rest) are =
    let (place, has) = has_first first.1 (All-head (IsPosting (2 ^ 32 - 1)) first rest are.each).some in record {
      holds = (place, record { positions = first.1; among = contains_first first rest; positioned = has });
      first = λ n place has. (contains_range first.0 (2 ^ 32 - 1) (documents_of (first ∷ rest)) n (omega arith, are.documents.1, are.documents.2) (contains_map (λ (p : Posting). p.0) (first ∷ rest) (n, has.positions) has.among)).0;
      below = are.documents.1;
    }

-- postings that were passed up to a document were asked for it
pub reaches_document : (bottom low : ℕ) (old new : List Posting) (answer : Option ℕ) → ArePostings bottom (2 ^ 32 - 1) old → new ≡ from_document low old → answer ≡ option_map (λ (p : Posting). p.0) (first_of new) → Reaches (HasPosition old) (HasPosition new) low answer
reaches_document bottom low old new answer are passed is = record {
  kept = λ n place.
      let there = contains_from_document low bottom (2 ^ 32 - 1) old in
      subst (λ (ps : List Posting). HasPosition ps n place ↔ (HasPosition old n place × (low ≤ n))) (sym passed) (
        λ has. let kept = (there (n, has.positions) are.documents).0 has.among in (record { positions = has.positions; among = kept.0; positioned = has.positioned }, kept.1),
        λ h. record { positions = h.0.positions; among = (there (n, h.0.positions) are.documents).1 (h.0.among, h.1); positioned = h.0.positioned },
      );
  found = subst (λ (a : Option ℕ). MatchOption a ((n place : ℕ) → ¬ (HasPosition new n place)) (IsFirst (HasPosition new))) (sym is)
      (first_document_is bottom new (subst (λ (ps : List Posting). ArePostings bottom (2 ^ 32 - 1) ps) (sym passed) (are_from low bottom (2 ^ 32 - 1) old are)));
}

-- what is at hand after the postings behind it were passed up to a document
pub sought : {X : Type 0} (f : X → Posting) (low : ℕ) (current found : Option X) (rest new : List Posting) → ¬ (IsSomeAnd (first_of (option_to_list (option_map f current) ++ rest)) (λ p. low ≤ p.0)) → IfSome found (λ x. from_document low rest ≡ f x ∷ new) → IfNone found ((from_document low rest ≡ []) × (new ≡ []))
    → option_to_list (option_map f found) ++ new ≡ from_document low (option_to_list (option_map f current) ++ rest)
sought f low None None rest new stands some none = none.1 ∙ sym none.0
sought f low None (Some x) rest new stands some none = sym some
sought f low (Some p) None rest new stands some none = none.1 ∙ sym none.0 ∙ sym (from_below_document low (f p) rest (elim (cases_lt (f p).0 low) [ inl below ↦ below | inr above ↦ absurd (stands above) ]))
sought f low (Some p) (Some x) rest new stands some none = sym some ∙ sym (from_below_document low (f p) rest (elim (cases_lt (f p).0 low) [ inl below ↦ below | inr above ↦ absurd (stands above) ]))

-- and where the one at hand is not below it
pub stood : (low : ℕ) (old : List Posting) → IsSomeAnd (first_of old) (λ p. low ≤ p.0) → old ≡ from_document low old
stood low [] stands = absurd stands
stood low (p ∷ rest) stands = sym (from_this_document low p rest stands)

pub first_at_hand : {X : Type 0} (current : Option X) (rest : List X) → (current ≡ None → rest ≡ []) → current ≡ first_of (option_to_list current ++ rest)
first_at_hand None rest ended = ap first_of (sym (ended refl))
first_at_hand (Some x) rest ended = refl

pub first_dropped : {X : Type 0} (k : ℕ) (xs : List X) → slice_get xs k ≡ first_of (drop k xs)
first_dropped zero [] = refl
first_dropped (suc k) [] = refl
first_dropped zero (x ∷ xs) = refl
first_dropped (suc k) (x ∷ xs) = first_dropped k xs

pub none_is : {X P : Type 0} (r : Option X) → r ≡ None → IfNone r P → P
none_is None e p = p
none_is (Some x) e p = absurd (cc)

-- ---- positions, seen as the places at which a phrase may start

first_start : (offset low : ℕ) (new : List ℕ) → Ascends (min (low + offset) (2 ^ 32 - 1)) (2 ^ 32 - 1) new
    → MatchOption (option_map (λ p. p - offset) (first_of new)) ((n place : ℕ) → ¬ (Contains new (n + offset))) (IsFirst (λ n place. Contains new (n + offset)))
first_start offset low [] up = λ n place has. contains_none (n + offset) has
first_start offset low (x ∷ xs) up = record {
  holds = (0, let back : x - offset + offset ≡ x = omega arith in subst (λ p. Contains (x ∷ xs) p) (sym back) (contains_first x xs));
  first = λ n place has. let range = contains_range x (2 ^ 32 - 1) (x ∷ xs) (n + offset) (omega arith, up.1, up.2) has in omega arith;
  below = omega arith;
}

-- the numbers from one on ascend from it
pub ascends_up : (low bottom top : ℕ) (xs : List ℕ) → Ascends bottom top xs → Ascends low top (from_number low xs)
ascends_up low bottom top [] up = tt
ascends_up low bottom top (x ∷ xs) up = elim (cases_lt x low) [
  | inl below ↦ rw (from_below low x xs below) (ascends_up low (x + 1) top xs up.2)
  | inr above ↦ rw (from_here low x xs above) (above, up.1, up.2)
]

-- positions that were passed up to a start were asked for it
pub reaches_start : (offset low position : ℕ) (old new : List ℕ) (current : Option ℕ) → Ascends 0 (2 ^ 32 - 1) old → position ≡ min (low + offset) (2 ^ 32 - 1) → new ≡ from_number position old → current ≡ first_of new
    → Reaches (λ n place. Contains old (n + offset)) (λ n place. Contains new (n + offset)) low (option_map (λ p. p - offset) current)
reaches_start offset low position old new current up at passed is = record {
  kept = λ n place.
      let there = contains_from position 0 (2 ^ 32 - 1) old (n + offset) up in
      subst (λ (ns : List ℕ). Contains ns (n + offset) ↔ (Contains old (n + offset) × (low ≤ n))) (sym passed) (
        λ has. let kept = there.0 has in let range = contains_range 0 (2 ^ 32 - 1) old (n + offset) up kept.0 in (kept.0, let high = kept.1 in omega arith),
        λ h. there.1 (h.0, let far = h.1 in omega arith),
      );
  found =
      let rising = subst (λ (ns : List ℕ). Ascends position (2 ^ 32 - 1) ns) (sym passed) (ascends_up position 0 (2 ^ 32 - 1) old up) in
      subst (λ (o : Option ℕ). MatchOption (option_map (λ p. p - offset) o) ((n place : ℕ) → ¬ (Contains new (n + offset))) (IsFirst (λ n place. Contains new (n + offset)))) (sym is)
      (first_start offset low new (subst (λ p. Ascends p (2 ^ 32 - 1) new) at rising));
}

-- ---- a stream read to its end

-- what was found is what the stream had below a number, and from it on it is as it was
pub record IsCollected (old now : Pairs) (found : List ℕ) (low : ℕ) : Type 0 where
  pub ascending : Ascends 0 (2 ^ 32 - 1) found
  pub next : next_after 0 found ≤ low
  pub sound : (n : ℕ) → Contains found n → Have old n
  pub complete : (n : ℕ) → Have old n → n < low → Contains found n
  pub same : IsSameFrom old now low
  pub small : low < 2 ^ 32

pub collected_more : (old now new : Pairs) (found : List ℕ) (low number : ℕ) → IsCollected old now found low → Reaches now new low (Some number) → IsCollected old new (found ++ number ∷ []) (number + 1)
collected_more old now new found low number before reached =
    let first = reached.found in
    let (place, has) = first.holds in
    let kept = (reached.kept number place).0 has in
    let high = kept.1 in
    let start = before.next in
    let under = first.below in record {
      ascending = Ascends-push 0 (2 ^ 32 - 1) found number before.ascending (omega arith) first.below;
      next = let e = next_after-push 0 found number in omega arith;
      sound = λ n among. elim (Contains-push_cases found number n among) [
        | inl was ↦ before.sound n was
        | inr same ↦ let P : ℕ → Type 0 = Have old in subst P same (place, (before.same number place).0 kept.0)
      ];
      complete = λ n (p, was) below. elim (cases_lt n low) [
        | inl less ↦ Contains-append_left found (number ∷ []) n (before.complete n (p, was) less)
        | inr more ↦
            let there = (reached.kept n p).1 ((before.same n p).1 was more, more) in
            let least = first.first n p there in
            let same : number ≡ n = omega arith in
            subst (λ m. Contains (found ++ number ∷ []) m) same (Contains-push found number)
      ];
      same = λ n p. (
        λ there. (before.same n p).0 ((reached.kept n p).0 there).0,
        λ was far. (reached.kept n p).1 ((before.same n p).1 was (omega arith), omega arith),
      );
      small = omega arith;
    }

-- the document that is first in a list of postings is that of its first posting, and has the positions of that
pub first_posting_is : (document n : ℕ) (positions : List ℕ) (rest : List Posting) → ArePostings 0 (2 ^ 32 - 1) ((document, positions) ∷ rest) → IsFirst (HasPosition ((document, positions) ∷ rest)) n
    → (p : ℕ) → HasPosition ((document, positions) ∷ rest) n p ↔ Contains positions p
first_posting_is document n positions rest are first p = (
  λ has. elim (contains_cases (document, positions) rest (n, has.positions) has.among) [
    | inl same ↦ let e : positions ≡ has.positions = ap (λ (x : Posting). x.1) same in subst (λ (xs : List ℕ). Contains xs p) (sym e) has.positioned
    | inr later ↦
        let range = contains_range (document + 1) (2 ^ 32 - 1) (documents_of rest) n are.documents.2 (contains_map (λ (x : Posting). x.0) rest (n, has.positions) later) in
        let a = low in absurd (omega arith)
  ],
  λ has. subst (λ (d : ℕ). HasPosition ((document, positions) ∷ rest) d p) here (record { positions = positions; among = contains_first (document, positions) rest; positioned = has }),
)
  where
    low : n ≤ document
    low =
        let (place, there) = has_first positions (All-head (IsPosting (2 ^ 32 - 1)) (document, positions) rest are.each).some in
        first.first document place (record { positions = positions; among = contains_first (document, positions) rest; positioned = there })

    high : document ≤ n
    high =
        let (place, there) = first.holds in
        (contains_range document (2 ^ 32 - 1) (documents_of ((document, positions) ∷ rest)) n (omega arith, are.documents.1, are.documents.2) (contains_map (λ (x : Posting). x.0) ((document, positions) ∷ rest) (n, there.positions) there.among)).0

    here : document ≡ n
    here = let a = low in let b = high in omega arith

-- an empty list has no first document
pub none_first : (n : ℕ) → ¬ (IsFirst (HasPosition []) n)
none_first n first = let (place, has) = first.holds in contains_none (n, has.positions) has.among

-- ---- a stream of which each number is marked

-- `holds` is what is marked so far: what was before, and what the stream had below `low` and below the count
pub record IsMarkedUp (old now : Pairs) (before holds : ℕ → Type 0) (count low : ℕ) : Type 0 where
  pub sound : (n : ℕ) → holds n → before n ⊎ (Have old n × (n < count))
  pub kept : (n : ℕ) → before n → holds n
  pub complete : (n : ℕ) → Have old n → n < count → n < low → holds n
  pub same : IsSameFrom old now low
  pub small : low < 2 ^ 32

pub marked_up : (old now new : Pairs) (before holds more : ℕ → Type 0) (count low number : ℕ) → IsMarkedUp old now before holds count low → Reaches now new low (Some number) → ((n : ℕ) → more n ↔ (holds n ⊎ ((n ≡ number) × (number < count)))) → IsMarkedUp old new before more count (number + 1)
marked_up old now new before holds more count low number up reached one =
    let first = reached.found in
    let (place, has) = first.holds in
    let kept = (reached.kept number place).0 has in
    let high = kept.1 in
    let under = first.below in record {
      sound = λ n is. elim ((one n).0 is) [
        | inl was ↦ up.sound n was
        | inr (same, below) ↦ inr (let P : ℕ → Type 0 = Have old in subst P (sym same) (place, (up.same number place).0 kept.0), omega arith)
      ];
      kept = λ n is. (one n).1 (inl (up.kept n is));
      complete = λ n (p, was) below less. elim (cases_lt n low) [
        | inl lower ↦ (one n).1 (inl (up.complete n (p, was) below lower))
        | inr higher ↦
            let there = (reached.kept n p).1 ((up.same n p).1 was higher, higher) in
            let least = first.first n p there in
            let same : n ≡ number = omega arith in (one n).1 (inr (same, omega arith))
      ];
      same = λ n p. (
        λ there. (up.same n p).0 ((reached.kept n p).0 there).0,
        λ was far. (reached.kept n p).1 ((up.same n p).1 was (omega arith), omega arith),
      );
      small = omega arith;
    }
