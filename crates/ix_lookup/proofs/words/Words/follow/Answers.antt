use Rattle.std.proofs.Common.{◌≡◌, ◌≤◌, ◌<◌, ◌+◌, ◌++◌, true, List, ℕ, length, take, nat_eq, refl, sym, ap, ◌∙◌, subst, arith, Bor, Bool, false, IsTrue, ⊎_elim}
use Rattle.std.proofs.lemmas.Bool.{cases_lt}
use Rattle.std.proofs.lemmas.List.Sums.{common_prefix_len-le}
use Rattle.std.specs.Cmp.Lexicographic.{slice_cmp}
use Rattle.std.specs.Ordering.{is_lt, nat_cmp}
use Rattle.ix_lookup.specs.Words.{AreAtTerm, IsAtTerm, IsNext, HasPassed, texts_of}
use Rattle.ix_lookup.proofs.FrontLemmas.{common}
use Rattle.ix_lookup.proofs.WordsLemmas.{stays, reaches, passes_next, same_front, shared_within, texts_count}
use Rattle.ix_lookup.proofs.words.Words.follow.Goals as goal

left_from : {place count : ℕ} {b : Bool} → (count ≤ place → IsTrue b) → b ≡ false → place < count
left_from {place} {count} behind fails = ⊎_elim (λ (left : place < count). left) (λ (all : count ≤ place). absurd (let is = behind all in cc)) (cases_lt place count)

pub advance-requires : goal.advance-requires
advance-requires c = left_from c.is_behind.ensures.1 c.if-is_behind.false

pub returns-then-is_behind-clause-moved : goal.returns-then-is_behind-clause-moved
returns-then-is_behind-clause-moved c = λ before at within above. stays c.args.self.now before (take c.args.shared before ++ c.args.own.now) at above (c.is_behind.ensures.0 c.if-is_behind.true)

pub returns-then-not-self-clause-moved : goal.returns-then-not-self-clause-moved
returns-then-not-self-clause-moved c = λ before at within above.
    let words = c.args.self.now in
    let is : AreAtTerm words before = at in
    let next : IsNext (texts_of words) words.place words.word before = is.next (omega (arith, texts_count words, left_from c.is_behind.ensures.1 c.if-is_behind.false)) in
    reaches words _ before (take c.args.shared before ++ c.args.own.now) is (left_from c.is_behind.ensures.1 c.if-is_behind.false) refl refl c.follow.ensures.text (c.follow.ensures.moved before next.at within) c.if-not-self.true above

pub returns-clause-moved : goal.returns-clause-moved
returns-clause-moved c = λ before at within above.
    let words = c.args.self.now in
    let moved = c.follow.new.self in
    let own = c.args.own.now in
    let term = take c.args.shared before ++ own in
    let is : AreAtTerm words before = at in
    let left : words.place < length words.texts.items = left_from c.is_behind.ensures.1 c.if-is_behind.false in
    let next : IsNext (texts_of words) words.place words.word before = is.next (omega (arith, texts_count words)) in
    let word : IsAtTerm moved term = c.follow.ensures.moved before next.at within in
    let text : moved.text.now ≡ words.word.text.now = ap (λ (t : Bor (List ℕ)). t.now) c.follow.ensures.text in
    let below : is_lt (slice_cmp nat_cmp words.word.text.now term) ≡ true = ap (λ (t : List ℕ). is_lt (slice_cmp nat_cmp t term)) (sym text) ∙ sym word.below ∙ c.if-not-self.false in
    let shared : c.args.shared ≤ common before words.word.text.now = shared_within before own words.word.text.now c.args.shared within (sym next.at.below ∙ next.reached) below in
    let front : take c.args.shared before ≡ take c.args.shared moved.text.now = same_front before words.word.text.now c.args.shared shared ∙ ap (take c.args.shared) (sym text) in
    let few = (common_prefix_len-le nat_eq before words.word.text.now).1 in
    let long : c.args.shared ≤ length moved.text.now = omega (arith, shared, few, ap length text) in
    let passed : HasPassed (texts_of words) (words.place + 1) term = passes_next words moved before term is left c.follow.ensures.text word c.if-not-self.false above in
    subst (λ (bytes : List ℕ). AreAtTerm c.advance.new.self (bytes ++ own)) (sym front)
    (c.advance.ensures.moved is.sorted long (subst (λ (bytes : List ℕ). HasPassed (texts_of words) (words.place + 1) (bytes ++ own)) front passed))
