-- Lines that are joined part by part, and numbers that are summed so.
use Rattle.std.proofs.Common.{◌≡◌, ℕ, ◌+◌, ◌-◌, ◌^◌, ◌<◌, ◌≤◌, List, [], ◌∷◌, ◌++◌, map, take, length, get_or, refl, sym, ap, ◌∙◌, arith}
use Rattle.std.specs.Prelude.{None, Ok, Option, Result, Some, flat_map, min, sum_by}
use Rattle.std.specs.Option.{SomeIff, ok_or}
use Rattle.std.specs.Result.{result_unwrap_or}
use Rattle.std.proofs.lemmas.Grind.{flat_map-append}
use Rattle.std.proofs.lemmas.List.{append-nil, map_push, take_all, take_more}
use Rattle.std.proofs.lemmas.List.Sums.{sum_by_push}
use Rattle.ix_manifest.specs.declared.manifest.Segment.{Segment}
use Rattle.ix_ask.specs.declared.output.Lines.{Lines}
use Rattle.ix_archive.specs.OpenedArchives.{first_after}
use Rattle.ix_archive.specs.PartsOfAnswers.{AreJoined}
use Rattle.ix_archive.specs.declared.read_error.ReadError.{ReadError}

-- ---- numbers

pub first_more : (segments : List Segment) (i : ℕ) (segment : Segment) → i < length segments → segment ≡ get_or segments i segment
    → min (first_after (take i segments) + segment.documents) (2 ^ 64 - 1) ≡ first_after (take (i + 1) segments)
first_more segments i segment within is =
    let documents : Segment → ℕ = λ one. one.documents in
    let more : take (i + 1) segments ≡ take i segments ++ segment ∷ [] =
    take_more segments i segment within ∙ ap (λ (one : Segment). take i segments ++ one ∷ []) (sym is) in
    let sum : sum_by documents (take (i + 1) segments) ≡ sum_by documents (take i segments) + segment.documents =
    ap (sum_by documents) more ∙ sum_by_push documents (take i segments) segment in
    omega arith

pub checked_sum : {E : Type 0} (r : Option ℕ) (P : Type 0) (sum count : ℕ) (error : E) → SomeIff r P sum → Ok count ≡ ok_or r error → count ≡ sum
checked_sum {E} (Some value) P sum count error told is =
    let unwrap : Result ℕ E → ℕ = λ r. result_unwrap_or r 0 in
    ap unwrap is ∙ told.1
checked_sum None P sum count error told is = absurd (let none = is in cc)

-- ---- lines

-- These parts have lines, and these are the lines of all.
pub record JoinedSoFar (parts : List (Result Lines ReadError)) (bytes : List ℕ) (count : ℕ) : Type 0 where
  pub each : List Lines
  pub all : parts ≡ map (λ part. Ok part) each
  pub joined : bytes ≡ flat_map (λ part. part.bytes.items) each
  pub counted : count ≡ sum_by (λ part. part.count) each

pub joined_none : JoinedSoFar [] [] 0
joined_none = record { each = []; all = refl; joined = refl; counted = refl }

pub joined_more : (parts : List (Result Lines ReadError)) (i : ℕ) (part : Result Lines ReadError) (lines : Lines) (bytes : List ℕ) (count : ℕ) → i < length parts → part ≡ get_or parts i part → part ≡ Ok lines
    → JoinedSoFar (take i parts) bytes count → JoinedSoFar (take (i + 1) parts) (bytes ++ lines.bytes.items) (count + lines.count)
joined_more parts i part lines bytes count within at is so_far =
    let ok : Lines → Result Lines ReadError = λ one. Ok one in
    let text : Lines → List ℕ = λ one. one.bytes.items in
    let counts : Lines → ℕ = λ one. one.count in
    record {
      each = so_far.each ++ lines ∷ [];
      all = take_more parts i part within ∙ ap (λ (one : Result Lines ReadError). take i parts ++ one ∷ []) (sym at ∙ is)
          ∙ ap (λ (l : List (Result Lines ReadError)). l ++ ok lines ∷ []) so_far.all ∙ sym (map_push ok so_far.each lines);
      joined = ap (λ (l : List ℕ). l ++ lines.bytes.items) so_far.joined ∙ ap (λ (l : List ℕ). flat_map text so_far.each ++ l) (sym (append-nil lines.bytes.items))
          ∙ sym (flat_map-append text so_far.each (lines ∷ []));
      counted = ap (λ (n : ℕ). n + lines.count) so_far.counted ∙ sym (sum_by_push counts so_far.each lines);
    }

pub all_joined : (parts : List (Result Lines ReadError)) (i : ℕ) (lines : Lines) → length parts ≤ i → JoinedSoFar (take i parts) lines.bytes.items lines.count → AreJoined parts lines
all_joined parts i lines all so_far = record {
  each = so_far.each;
  all = sym (take_all i parts all) ∙ so_far.all;
  joined = so_far.joined;
  counted = so_far.counted;
}
