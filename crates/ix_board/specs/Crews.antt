-- What a seat of a board knows, and how each of its steps changes that.
use Rattle.std.specs.Prelude.{◌≡◌, ℕ, ◌+◌, ◌-◌, ◌==◌, nat_lt, Bool, true, false, List, [], ◌∷◌, ◌++◌, map, take, drop, Option, Some, None, if◌then◌else◌}
use Rattle.std.specs.Bool.{MatchBool}
use Rattle.std.specs.List.{range_with_len}
use Rattle.atomic_table.specs.Table.{Me, Step as Move}
use Rattle.ix_board.specs.declared.step.Step.{Step}
use Rattle.ix_board.specs.declared.step.Step.TheVariants.{Claim, Deliver, GiveUp, Look}
use Rattle.ix_board.specs.declared.rule.Member.{Member}
use Rattle.ix_board.specs.declared.rule.Crew.{Crew}

-- a seat's crew, and the slots that are out with it
abbrev pub Seated : Type 0 → Type 0
Seated P = Me (Option P) (Crew P)

module _ {P : Type 0} where
  abbrev pub member : ℕ → Bool → List (Step P) → Member P
  member n owed steps = record { number = n; owed = owed; steps = steps }

  abbrev pub crew : ℕ → ℕ → List (Member P) → Crew P
  crew count workers members = record { count = count; workers = workers; members = members }

  -- what the seat of desk n knows
  abbrev pub desk_crew : ℕ → ℕ → ℕ → List (Step P) → Crew P
  desk_crew count workers n steps = crew count workers (member n false steps ∷ [])

  -- n workers from `from` on, that have made no step
  abbrev pub fresh_members : ℕ → ℕ → ℕ → List (Member P)
  fresh_members count from n = map (λ w. member w (nat_lt w count) []) (range_with_len from n)

  -- what the first seat knows
  abbrev pub all_hands : ℕ → ℕ → Crew P
  all_hands count workers = crew count workers (fresh_members count 0 workers)

  -- what the first seat knows once the workers below n have their seats
  abbrev pub undealt : ℕ → ℕ → ℕ → Crew P
  undealt count workers n = crew count workers (fresh_members count n (workers - n))

  -- the slots that are out with a desk: that of the place that it holds, which is empty
  abbrev pub slots_of : Option ℕ → List (ℕ × Option P)
  slots_of None = []
  slots_of (Some k) = (k, None) ∷ []

  abbrev pub member_after : Step P → Member P → Member P
  member_after s m = member m.number m.owed (m.steps ++ s ∷ [])

  -- the crew after a step of its worker
  abbrev pub with_step : Step P → Crew P → Crew P
  with_step s v = crew v.count v.workers (map (member_after s) v.members)

  abbrev pub not_owed : Member P → Member P
  not_owed m = member m.number false m.steps

  abbrev pub all_but_first : Crew P → Crew P
  all_but_first v = crew v.count v.workers (drop 1 v.members)

  abbrev pub first_alone : Crew P → Crew P
  first_alone v = crew v.count v.workers (take 1 v.members)

  abbrev pub both_crews : Crew P → Crew P → Crew P
  both_crews v w = crew v.count v.workers (w.members ++ v.members)

  abbrev pub no_crew : Crew P
  no_crew = crew 0 0 []

  -- how many members have this number
  abbrev pub times_in : ℕ → List (Member P) → ℕ
  times_in n [] = 0
  times_in n (m ∷ ms) = (if m.number == n then 1 else 0) + times_in n ms

  -- ---- what each step tells

  -- an open place is claimed and its slot taken; a place that is not open is looked at
  abbrev pub ClaimsOrLooks : Move (Option P) → Seated P → ℕ → Seated P → Type 0
  ClaimsOrLooks st m found m' = MatchBool (found == 0)
      (m' ≡ (with_step (Claim st.word) m.0, (st.word, None) ∷ m.1))
      (m' ≡ (with_step (Look st.word) m.0, m.1))

  abbrev deliver_one : Crew P → ℕ → Option P → List (ℕ × Option P) → Seated P
  deliver_one v k None rest = (v, rest)
  deliver_one v k (Some x) rest = (with_step (Deliver k x) v, rest)

  -- the seat after the piece in the slot that it took last is delivered
  abbrev pub after_deliver : Crew P → List (ℕ × Option P) → Seated P
  after_deliver v [] = (v, [])
  after_deliver v (s ∷ rest) = deliver_one v s.0 s.1 rest

  abbrev pub Delivers : Move (Option P) → Seated P → ℕ → Seated P → Type 0
  Delivers st m found m' = m' ≡ after_deliver m.0 m.1

  -- the seat after the place whose slot it took last is given up
  abbrev pub after_give_up : Crew P → List (ℕ × Option P) → Seated P
  after_give_up v [] = (v, [])
  after_give_up v (s ∷ rest) = (with_step (GiveUp s.0) v, rest)

  abbrev pub GivesUp : Move (Option P) → Seated P → ℕ → Seated P → Type 0
  GivesUp st m found m' = m' ≡ after_give_up m.0 m.1

  -- the slot is taken, and is not owed any more
  abbrev pub Fetches : Move (Option P) → Seated P → ℕ → Seated P → Type 0
  Fetches st m found m' = m' ≡ (crew m.0.count m.0.workers (map not_owed m.0.members), (st.word, None) ∷ m.1)

  -- the seat of a desk after it tried a place: it claimed it, or looked at it
  abbrev pub after_try : ℕ → ℕ → ℕ → List (Step P) → ℕ → Bool → Seated P
  after_try count workers n steps k true = (desk_crew count workers n (steps ++ Claim k ∷ []), (k, None) ∷ [])
  after_try count workers n steps k false = (desk_crew count workers n (steps ++ Look k ∷ []), [])
