-- What was claimed, one token after another.
use Rattle.std.proofs.Common.{◌≡◌, ℕ, ◌≤◌, ◌↔◌, ◌++◌, ◌∷◌, [], ◌||◌, Bool, not, true, false, IsTrue, List, Contains, refl, sym, ap, ◌∙◌, subst, Vec}
use Rattle.std.specs.List.Sorted.{IsPermutation, IsNonDecreasing, IsStrictlyIncreasing}
use Rattle.std.proofs.lemmas.List.{append_assoc, append-nil}
use Rattle.std.proofs.lemmas.List.Sorted.{IsPermutation-sym}
use Rattle.std.specs.declared.alloc.Global.{Global}
use Rattle.ix_postings.specs.TokenMarks.{HoldsNumbers, ShareNumber, room}
use Rattle.ix_text.specs.TokenNumbers.{AreDistinct}
use Rattle.ix_postings.specs.declared.token_marks.TokenMarks.{TokenMarks}
use Rattle.ix_file.specs.Claimed.{HasClaimed, HasRoom, HaveClaimed}
use Rattle.ix_file.specs.declared.open.claims.Claims.{Claims}
use Rattle.ix_file.specs.declared.open.claims.Claims.TheVariants.{Marked, Listed}
use Rattle.ix_file.proofs.DistinctClaims.{distinct_beside, distinct_more, distinct_permutation, distinct_rising, rising_distinct}

pub nothing_marked : (marks : TokenMarks) → HoldsNumbers marks [] → HasClaimed (Marked marks false) []
unfolding HasClaimed
nothing_marked marks holds = (holds, (λ h. absurd (cc h), λ h. absurd (h tt)))

pub marked_room : (marks : TokenMarks) (doubled : Bool) (top : ℕ) → top ≤ room marks → HasRoom (Marked marks doubled) top
unfolding HasRoom
marked_room marks doubled top fits = fits

pub room_marked : (marks : TokenMarks) (doubled : Bool) (top : ℕ) → HasRoom (Marked marks doubled) top → top ≤ room marks
unfolding HasRoom
room_marked marks doubled top fits = fits

-- one token more
pub marked_more : (marks new : TokenMarks) (doubled free : Bool) (numbers : List ℕ) (number : ℕ)
    → HasClaimed (Marked marks doubled) numbers
    → (HoldsNumbers marks numbers → IsTrue free ↔ ¬ (Contains numbers number))
    → (HoldsNumbers marks numbers → HoldsNumbers new (numbers ++ number ∷ []))
    → HasClaimed (Marked new (doubled || not free)) (numbers ++ number ∷ [])
unfolding HasClaimed
marked_more marks new doubled free numbers number has was now = (now has.0, distinct_more doubled free numbers number has.1 (was has.0))

pub listed_more : (old new : Vec ℕ Global) (numbers : List ℕ) (number : ℕ) → HasClaimed (Listed old) numbers → new.items ≡ old.items ++ number ∷ [] → HasClaimed (Listed new) (numbers ++ number ∷ [])
unfolding HasClaimed
listed_more old new numbers number has pushed = pushed ∙ ap (λ xs. xs ++ number ∷ []) has

-- a list has room for any
pub listed_room : (listed : Vec ℕ Global) (top : ℕ) → HasRoom (Listed listed) top
unfolding HasRoom
listed_room listed top = tt

pub nothing_listed : (listed : Vec ℕ Global) → listed.items ≡ [] → HasClaimed (Listed listed) []
unfolding HasClaimed
nothing_listed listed none = none

-- ---- what is told behind the last
pub marked_doubled : (marks : TokenMarks) (doubled : Bool) (numbers : List ℕ) → HasClaimed (Marked marks doubled) numbers → IsTrue doubled ↔ ¬ (AreDistinct numbers)
unfolding HasClaimed
marked_doubled marks doubled numbers has = has.1

rising_or : (numbers sorted : List ℕ) (rising : Bool) → IsPermutation numbers sorted → IsNonDecreasing sorted → IsTrue rising ↔ IsStrictlyIncreasing sorted → IsTrue (not rising) ↔ ¬ (AreDistinct numbers)
rising_or numbers sorted true order ordered tells = (λ h. absurd (cc h), λ h. absurd (h (distinct_permutation sorted numbers (IsPermutation-sym numbers sorted order) (rising_distinct sorted (tells.0 refl)))))
rising_or numbers sorted false order ordered tells = (λ h d. absurd (cc (tells.1 (distinct_rising sorted ordered (distinct_permutation numbers sorted order d)))), λ h. refl)

pub listed_doubled : (listed : Vec ℕ Global) (sorted numbers : List ℕ) (rising : Bool) → HasClaimed (Listed listed) numbers → IsPermutation listed.items sorted → IsNonDecreasing sorted → IsTrue rising ↔ IsStrictlyIncreasing sorted → IsTrue (not rising) ↔ ¬ (AreDistinct numbers)
unfolding HasClaimed
listed_doubled listed sorted numbers rising has order ordered tells = rising_or numbers sorted rising (subst (λ (xs : List ℕ). IsPermutation xs sorted) has order) ordered tells

-- what is told of two that were marked
pub marked_beside : (marks others : TokenMarks) (doubled there meets : Bool) (one other : List ℕ) → HasClaimed (Marked marks doubled) one → HasClaimed (Marked others there) other
    → (HoldsNumbers marks one → HoldsNumbers others other → IsTrue meets ↔ ShareNumber one other)
    → IsTrue (doubled || there || meets) ↔ ¬ (AreDistinct (one ++ other))
unfolding HasClaimed
marked_beside marks others doubled there meets one other has has_too told = distinct_beside doubled there meets one other has.1 has_too.1 (told has.0 has_too.0)

-- nothing more, and one behind another
pub claimed_none : (claims : Claims) → HaveClaimed claims claims []
claimed_none claims numbers has = subst (HasClaimed claims) (sym (append-nil numbers)) has

pub claimed_both : (old now new : Claims) (one other : List ℕ) → HaveClaimed old now one → HaveClaimed now new other → HaveClaimed old new (one ++ other)
claimed_both old now new one other first second numbers has = subst (HasClaimed new) (append_assoc numbers one other) (second (numbers ++ one) (first numbers has))
