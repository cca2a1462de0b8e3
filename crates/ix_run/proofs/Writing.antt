-- Writes one behind another.
use Rattle.std.proofs.Common.{◌≡◌, ℕ, ◌+◌, ◌<◌, ◌≤◌, List, [], ◌∷◌, ◌++◌, map, length, flat_map, take, drop, get_or, Option, Result, Ok, Err, IsErr, All, sym, ap, subst, ◌∙◌, take-append-drop}
use Rattle.std.proofs.lemmas.Grind.{flat_map-append}
use Rattle.std.proofs.lemmas.List.{append_assoc, append-nil, map-append, take_all}
use Rattle.std.proofs.lemmas.List.Elements.{All-nil, All-cons, All-head, All-tail}
use Rattle.std.specs.Io.KnownBytes.{Appends}
use Rattle.ix_output.specs.Sinks.{AppendsFront}
use Rattle.ix_output.proofs.SinkLemmas.{appends_then}
use Rattle.ix_run.specs.Writing.{Writes}
use Rattle.ix_run.proofs.Blocks.{map_take_more}

-- a beginning of some bytes is one of more
pub front_more : (old new : Option (List ℕ)) (bytes more : List ℕ) → AppendsFront old new bytes → AppendsFront old new (bytes ++ more)
front_more old new bytes more part = record {
  front = part.front;
  rest = part.rest ++ more;
  parts = ap (λ xs. xs ++ more) part.parts ∙ append_assoc part.front part.rest more;
  gained = part.gained;
}

-- a beginning of the second bytes behind the first
pub front_then : (old middle new : Option (List ℕ)) (first second : List ℕ) → Appends old middle first → AppendsFront middle new second → AppendsFront old new (first ++ second)
front_then old middle new first second whole part = record {
  front = first ++ part.front;
  rest = part.rest;
  parts = ap (λ xs. first ++ xs) part.parts ∙ sym (append_assoc first part.front part.rest);
  gained = appends_then old middle new first part.front whole part.gained;
}

-- a step that was refused
pub writes_refused : {T E : Type 0} (result : Result T E) (old new : Option (List ℕ)) (bytes : List ℕ) → IsErr result → AppendsFront old new bytes → Writes result old new bytes
writes_refused (Ok done) old new bytes err part = cc
writes_refused (Err refused) old new bytes err part = part

-- a last step
pub writes_then : {T E : Type 0} (result : Result T E) (old middle new : Option (List ℕ)) (first second : List ℕ) → Appends old middle first → Writes result middle new second → Writes result old new (first ++ second)
writes_then (Ok done) old middle new first second whole last = appends_then old middle new first second whole last
writes_then (Err refused) old middle new first second whole last = front_then old middle new first second whole last

module _ {A B : Type 0} (bytes : B → List ℕ) (shown : A → B) (xs : List A) where
  bytes_more : (i : ℕ) (x : A) → i < length xs → x ≡ get_or xs i x → flat_map bytes (map shown (take (i + 1) xs)) ≡ flat_map bytes (map shown (take i xs)) ++ bytes (shown x)
  bytes_more i x within is =
      ap (flat_map bytes) (map_take_more shown xs i x within is)
      ∙ flat_map-append bytes (map shown (take i xs)) (shown x ∷ [])
      ∙ ap (λ ys. flat_map bytes (map shown (take i xs)) ++ ys) (append-nil (bytes (shown x)))

  bytes_whole : (i : ℕ) → flat_map bytes (map shown xs) ≡ flat_map bytes (map shown (take i xs)) ++ flat_map bytes (map shown (drop i xs))
  bytes_whole i =
      ap (λ ys. flat_map bytes (map shown ys)) (sym (take-append-drop i xs))
      ∙ ap (flat_map bytes) (map-append shown (take i xs) (drop i xs))
      ∙ flat_map-append bytes (map shown (take i xs)) (map shown (drop i xs))

  -- one element more
  pub appends_one_more : (old middle new : Option (List ℕ)) (i : ℕ) (x : A) → i < length xs → x ≡ get_or xs i x → Appends old middle (flat_map bytes (map shown (take i xs))) → Appends middle new (bytes (shown x))
      → Appends old new (flat_map bytes (map shown (take (i + 1) xs)))
  appends_one_more old middle new i x within is before here =
      subst (Appends old new) (sym (bytes_more i x within is)) (appends_then old middle new (flat_map bytes (map shown (take i xs))) (bytes (shown x)) before here)

  -- a refusal within an element
  pub front_within : (old middle new : Option (List ℕ)) (i : ℕ) (x : A) → i < length xs → x ≡ get_or xs i x → Appends old middle (flat_map bytes (map shown (take i xs))) → AppendsFront middle new (bytes (shown x))
      → AppendsFront old new (flat_map bytes (map shown xs))
  front_within old middle new i x within is before part =
      let here = front_then old middle new (flat_map bytes (map shown (take i xs))) (bytes (shown x)) before part in
      let more = front_more old new (flat_map bytes (map shown (take i xs)) ++ bytes (shown x)) (flat_map bytes (map shown (drop (i + 1) xs))) here in
      subst (AppendsFront old new) (ap (λ ys. ys ++ flat_map bytes (map shown (drop (i + 1) xs))) (sym (bytes_more i x within is)) ∙ sym (bytes_whole (i + 1))) more

  -- all elements
  pub appends_all : (old new : Option (List ℕ)) (i : ℕ) → length xs ≤ i → Appends old new (flat_map bytes (map shown (take i xs))) → Appends old new (flat_map bytes (map shown xs))
  appends_all old new i end before = subst (Appends old new) (ap (λ ys. flat_map bytes (map shown ys)) (take_all i xs end)) before

-- what holds of the images holds of the elements' images
pub All-from_map : {A B : Type 0} (P : B → Type 0) (f : A → B) (xs : List A) → All P (map f xs) → All (λ x. P (f x)) xs
All-from_map P f [] all = All-nil (λ x. P (f x))
All-from_map P f (x ∷ xs) all = All-cons (λ y. P (f y)) x xs (All-head P (f x) (map f xs) all) (All-from_map P f xs (All-tail P (f x) (map f xs) all))
