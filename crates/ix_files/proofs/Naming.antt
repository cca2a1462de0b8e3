-- The names of drafts.
use Rattle.std.proofs.Common.{◌≡◌, ◌≢◌, ◌+◌, ◌-◌, ◌<◌, ◌≤◌, ◌^◌, ⊎_elim, ℕ, List, ◌++◌, codes, decimal, length, sym, ap, ◌∙◌, append_assoc, length-append, arith}
use Rattle.std.proofs.lemmas.Bool.Decides.{leb_tells}
use Rattle.std.proofs.lemmas.Fmt.{length-decimal-le}
use Rattle.std.specs.Io.{StartsWith}
use Rattle.ix_files.specs.Drafts.{IsDraftName}

module _ (name front end draft : List ℕ) (number : ℕ) (fits : number < 2 ^ 32) (ends : end ≡ codes ".ix-" ++ decimal number)
    (spelled : draft ≡ (codes "." ++ front) ++ end) (whole : length name ≤ 254 - length end → front ≡ name) where
  end_length : length end ≡ 4 + length (decimal number)
  end_length = ap length ends ∙ length-append (codes ".ix-") (decimal number)

  number_length : length (decimal number) ≤ 10
  number_length = length-decimal-le 10 number (omega arith) (omega (arith, fits)) (omega (arith, fits))

  draft_length : length draft ≡ 1 + length front + length end
  draft_length = ap length spelled ∙ length-append (codes "." ++ front) end ∙ ap (λ n. n + length end) (length-append (codes ".") front)

  pub named : 0 < number → StartsWith name front → length front ≤ 254 - length end → IsDraftName name draft
  named some begins room = record {
    number = number;
    some = some;
    front = front;
    begins = begins;
    whole = λ short. whole (omega (arith, number_length, end_length, short));
    spelled = spelled ∙ ap (λ end. codes "." ++ front ++ end) ends ∙ sym (append_assoc (codes "." ++ front) (codes ".ix-") (decimal number));
    short = omega (arith, number_length, end_length, draft_length, room);
  }

  -- a draft is longer than the name that it has whole, and shorter than one of which it has a beginning
  pub another_name : (254 - length end < length name → length front ≤ 200) → draft ≢ name
  another_name cut same = ⊎_elim
      (λ short. omega (arith, draft_length, ap length (whole short.1), ap length same))
      (λ long. omega (arith, number_length, end_length, draft_length, cut long.1, long.1, ap length same))
      (leb_tells (length name) (254 - length end))
