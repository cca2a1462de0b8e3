-- Documents that some streams have and others lack.
use Rattle.std.proofs.Common.{◌≡◌, ℕ, ◌≤◌, ◌↔◌, List, Some, length, sym}
use Rattle.ix_text.proofs.PartsLemmas.{at_same_place}
use Rattle.ix_query.specs.DocStreams.{HasNumber, IsInIntersection}
use Rattle.ix_query.specs.Streams.{HaveBoth, HasOne, Reaches, IsPassed, AreSameFrom, IsCommon}
use Rattle.ix_query.specs.declared.answers.doc_stream.DocStream.{DocStream}
use Rattle.ix_query.proofs.SiftLemmas.{IsCandidate}

-- from the number on the streams that are to be absent have what they had
pub one_same : (olds news : List DocStream) (number n : ℕ) → length news ≡ length olds → AreSameFrom HasNumber olds news number → number ≤ n → HasOne HasNumber news n ↔ HasOne HasNumber olds n
one_same olds news number n long same far = (
  λ (k, list, at, (p, has)). let (old, was) = at_same_place news olds k list long at in (k, old, was, (p, (same k old list was at n p).0 has)),
  λ (k, old, was, (p, had)). let (list, at) = at_same_place olds news k old (sym long) was in (k, list, at, (p, (same k old list was at n p).1 had far)),
)

pub meet_passed : (first first_new : DocStream) (others news absent absent_new : List DocStream) (number : ℕ) → length news ≡ length others → length absent_new ≡ length absent → IsCommon HasNumber first first_new others news number → AreSameFrom HasNumber absent absent_new number
    → IsPassed (λ n place. IsInIntersection first others absent n) (λ n place. IsInIntersection first_new news absent_new n) number
meet_passed first first_new others news absent absent_new number long long_absent common same n place = (
  λ (((p, has), all), lacks).
      let far = ((common.first n p).0 has).1 in (
        (
          (
            (p, ((common.first n p).0 has).0),
            λ k list was.
                let (new, at) = at_same_place others news k list (sym long) was in
                let (q, there) = all k new at in (q, ((common.others k list new was at n q).0 there).0),
          ),
          λ one. lacks ((one_same absent absent_new number n long_absent same far).1 one),
        ),
        far,
      ),
  λ ((((p, had), all), lacks), far). (
    (
      (p, (common.first n p).1 (had, far)),
      λ k new at.
          let (list, was) = at_same_place news others k new long at in
          let (q, there) = all k list was in (q, (common.others k list new was at n q).1 (there, far)),
    ),
    λ one. lacks ((one_same absent absent_new number n long_absent same far).0 one),
  ),
)

pub meet_candidate : (first first_new : DocStream) (others news absent absent_new : List DocStream) (least number : ℕ) → length news ≡ length others → length absent_new ≡ length absent
    → Reaches (λ n place. HaveBoth HasNumber first others n) (λ n place. HaveBoth HasNumber first_new news n) least (Some number) → IsCommon HasNumber first first_new others news number → AreSameFrom HasNumber absent absent_new number
    → IsCandidate (λ n place. IsInIntersection first others absent n) (λ n place. IsInIntersection first_new news absent_new n) least number
meet_candidate first first_new others news absent absent_new least number long long_absent reached common same = record {
  above = let (p, has) = reached.found.holds in ((reached.kept number p).0 has).1;
  passed = meet_passed first first_new others news absent absent_new number long long_absent common same;
  first = λ n place meet far. reached.found.first n place ((reached.kept n place).1 (meet.0, far));
  below = reached.found.below;
}
