-- A desk after one more step.
use Rattle.std.proofs.Common.{◌≡◌, ◌⊎◌, ℕ, ◌+◌, ◌<◌, ◌≤◌, cond, List, [], ◌∷◌, ◌++◌, map, length, refl, sym, ap, subst, ◌∙◌, inl, inr, ⊎_elim, append_assoc, append-nil, length-append, arith}
use Rattle.std.specs.Prelude.{Option, Some}
use Rattle.std.specs.List.{Contains, count_by}
use Rattle.std.proofs.lemmas.List.{map_push}
use Rattle.std.proofs.lemmas.List.Sums.{sum_by_push, sum_by-append, sum_by-cons}
use Rattle.std.proofs.lemmas.List.Elements.{Contains-append_left, Contains-push}
use Rattle.atomic_table.specs.declared.shared.Seat.{Seat}
use Rattle.ix_board.specs.declared.step.Step.{Step}
use Rattle.ix_board.specs.declared.step.Step.TheVariants.{Claim, Look}
use Rattle.ix_board.specs.declared.rule.Crew.{Crew}
use Rattle.ix_board.specs.declared.tour.Tour.{Tour}
use Rattle.ix_board.specs.declared.desk.Desk.TheInside.{Inside}
use Rattle.ix_board.specs.Machine.{held_then, held_after, first_held}
use Rattle.ix_board.specs.Laws.{is_try, HasSeen}
use Rattle.ix_board.specs.Crews.{desk_crew, slots_of, Seated}
use Rattle.ix_board.specs.Tours.{HasPassed}
use Rattle.ix_board.specs.Desks.{BoardView, DeskView, with_steps, place_held, LooksThenClaims, LooksOnly}
use Rattle.ix_board.specs.Seats.{number_in, steps_in}
use Rattle.ix_board.proofs.Holders.{first_held_itself}
use Rattle.ix_board.specs.DeskFields.{board_of, desk_view, IsSoundDesk}

-- every step of the list is a try
AllTry : (P : Type 0) → List (Step P) → Type 0
AllTry P more = count_by is_try more ≡ length more

looks_try : (P : Type 0) (seen : List ℕ) → AllTry P (map Look seen)
unfolding AllTry
looks_try P [] = refl
looks_try P (k ∷ seen) = omega (arith, sum_by-cons (λ (x : Step P). cond (is_try x) 1 0) (Look k) (map Look seen), looks_try P seen)

looks_and_claim_try : (P : Type 0) (seen : List ℕ) (k : ℕ) → AllTry P (map Look seen ++ Claim k ∷ [])
unfolding AllTry
looks_and_claim_try P seen k =
    omega (arith, sum_by_push (λ (x : Step P). cond (is_try x) 1 0) (map Look seen) (Claim k), looks_try P seen, length-append (map {B = Step P} Look seen) (Claim k ∷ []))

module _ {P : Type 0} where
  pub held_after-append : (h : Option ℕ) (xs ys : List (Step P)) → held_after h (xs ++ ys) ≡ held_after (held_after h xs) ys
  held_after-append h [] ys = refl
  held_after-append h (x ∷ xs) ys = held_after-append (held_then h x) xs ys

  pub seen_still : (count workers n k : ℕ) (steps more : List (Step P)) → HasSeen count workers n steps k → HasSeen count workers n (steps ++ more) k
  seen_still count workers n k steps more seen =
      ⊎_elim
      (λ l. inl (Contains-append_left steps more (Look k) l))
      (λ r.
      ⊎_elim
      (λ c. inr (inl (Contains-append_left steps more (Claim k) c)))
      (λ f. inr (inr f))
      r)
      seen

  -- a worker has seen its first place
  pub own_is_seen : (count workers n k : ℕ) (steps : List (Step P)) → k ≡ n → k < count → n < workers → HasSeen count workers n steps k
  own_is_seen count workers n k steps own in_count is_worker =
      let N : ℕ → Type 0 = λ j. j < count → first_held count workers n ≡ Some j in
      inr (inr (subst N (sym own) (λ h. first_held_itself count workers n h is_worker) in_count))

  -- a desk after the step t, with its seat, the place that it then holds, and its tour
  pub sound_after : (d : Inside P) (seat : Seat (Option P) (Crew P)) (held : Option ℕ) (tour : Tour) (t : Step P) (b : BoardView) → board_of d ≡ b → IsSoundDesk d
      → seat.table_id ≡ d.seat.table_id
      → seat.me ≡ (desk_crew b.count b.workers (number_in d.seat.me.0) (steps_in d.seat.me.0 ++ t ∷ []), slots_of held)
      → held ≡ held_then d.held t
      → ((k : ℕ) → held ≡ Some k → k < d.tour.count)
      → (tour.count ≡ d.tour.count) × (tour.own ≡ d.tour.own)
      → ((k : ℕ) → k < d.tour.count → HasPassed tour k → HasPassed d.tour k ⊎ (k ≡ d.tour.own) ⊎ (t ≡ Look k) ⊎ (t ≡ Claim k))
      → cond (is_try t) 1 0 + tour.left ≤ d.tour.left
      → IsSoundDesk (record { seat = seat; number = d.number; held = held; tour = tour; room = d.room })
  sound_after d seat held tour t b same sound table me_is held_is in_count tour_is passes fewer =
      let c = d.seat.me.0.count in
      let w = d.seat.me.0.workers in
      let n = number_in d.seat.me.0 in
      let steps = steps_in d.seat.me.0 in
      let B : BoardView → Type 0 = λ v. seat.me ≡ (desk_crew v.count v.workers n (steps ++ t ∷ []), slots_of held) in
      let mine : seat.me ≡ (desk_crew c w n (steps ++ t ∷ []), slots_of held) = subst B (sym same) me_is in
      let M : Seated P → Type 0 = λ m. IsSoundDesk (record { seat = record { marker = seat.marker; table_id = seat.table_id; id = seat.id; me = m }; number = d.number; held = held; tour = tour; room = d.room }) in
      let fits : d.tour.count ≡ c = sound.tour_fits.0 in
      subst M (sym mine) (record {
        seated = (refl, refl);
        numbered = sound.numbered;
        holds = held_is ∙ (ap (λ (h : Option ℕ). held_then h t) sound.holds ∙ sym (held_after-append (first_held c w n) steps (t ∷ [])));
        holds_place = λ k e. let h = in_count k e in omega arith;
        tour_fits = (tour_is.0 ∙ fits, tour_is.1 ∙ sound.tour_fits.1);
        is_worker = sound.is_worker;
        passed = λ k h p.
            ⊎_elim
            (λ old. seen_still c w d.number k steps (t ∷ []) (sound.passed k h old))
            (λ new.
            ⊎_elim
            (λ own. seen_still c w d.number k steps (t ∷ []) (own_is_seen c w d.number k steps (own ∙ sound.tour_fits.1) h sound.is_worker))
            (λ tried.
            let L : Step P → Type 0 = λ x. Contains (steps ++ t ∷ []) x in
            ⊎_elim
            (λ l. inl (subst L l (Contains-push steps t)))
            (λ l. inr (inl (subst L l (Contains-push steps t))))
            tried)
            new)
            (passes k (omega arith) p);
        few_tries = omega (arith, sum_by_push (λ (x : Step P). cond (is_try x) 1 0) steps t, sound.few_tries);
        has_room = sound.has_room;
        empty = sound.empty;
      })

  -- a desk whose tour passed no place but its own
  pub sound_past_own : (d : Inside P) (tour : Tour) → IsSoundDesk d → (tour.count ≡ d.tour.count) × (tour.own ≡ d.tour.own) → tour.left ≤ d.tour.left
      → ((k : ℕ) → k < d.tour.count → HasPassed tour k → (k ≡ d.tour.own) ⊎ HasPassed d.tour k)
      → IsSoundDesk (record { seat = d.seat; number = d.number; held = d.held; tour = tour; room = d.room })
  sound_past_own d tour sound tour_is fewer passes =
      let fits : d.tour.count ≡ d.seat.me.0.count = sound.tour_fits.0 in
      record {
        seated = sound.seated;
        numbered = sound.numbered;
        holds = sound.holds;
        holds_place = sound.holds_place;
        tour_fits = (tour_is.0 ∙ sound.tour_fits.0, tour_is.1 ∙ sound.tour_fits.1);
        is_worker = sound.is_worker;
        passed = λ k h p.
            ⊎_elim
            (λ own. own_is_seen d.seat.me.0.count d.seat.me.0.workers d.number k (steps_in d.seat.me.0) (own ∙ sound.tour_fits.1) h sound.is_worker)
            (λ old. sound.passed k h old)
            (passes k (omega arith) p);
        few_tries = omega (arith, sound.few_tries);
        has_room = sound.has_room;
        empty = sound.empty;
      }

  -- ---- several steps

  pub with_steps-append : (d : DeskView P) (xs ys : List (Step P)) → with_steps (with_steps d xs) ys ≡ with_steps d (xs ++ ys)
  with_steps-append d xs ys = ap (λ (l : List (Step P)). record { board = d.board; number = d.number; steps = l }) (append_assoc d.steps xs ys)

  held-with_steps : (d : DeskView P) (xs : List (Step P)) → place_held (with_steps d xs) ≡ held_after (place_held d) xs
  held-with_steps d xs = held_after-append (first_held d.board.count d.board.workers d.number) d.steps xs

  pub tries-with_step : (d : DeskView P) (t : Step P) → count_by is_try (with_steps d (t ∷ [])).steps ≡ count_by is_try d.steps + cond (is_try t) 1 0
  tries-with_step d t = sum_by_push (λ (x : Step P). cond (is_try x) 1 0) d.steps t

  -- as many more steps as tries
  short_by_tries : (d e : DeskView P) (more : List (Step P)) (n : ℕ) → e ≡ with_steps d more → AllTry P more → count_by is_try e.steps ≤ n → length e.steps ≤ length d.steps + n
  unfolding AllTry
  short_by_tries d e more n is all few =
      let tries : count_by is_try e.steps ≡ count_by is_try (d.steps ++ more) = ap (λ (x : DeskView P). count_by is_try x.steps) is in
      let len : length e.steps ≡ length (d.steps ++ more) = ap (λ (x : DeskView P). length x.steps) is in
      omega (arith, tries, len, sum_by-append (λ (x : Step P). cond (is_try x) 1 0) d.steps more, length-append d.steps more)

  pub looks_short : (d e : DeskView P) (n : ℕ) → LooksOnly d e → count_by is_try e.steps ≤ n → length e.steps ≤ length d.steps + n
  looks_short d e n looks few = short_by_tries d e (map Look looks.0) n looks.1 (looks_try P looks.0) few

  pub claims_short : (d e : DeskView P) (k n : ℕ) → LooksThenClaims d e k → count_by is_try e.steps ≤ n → length e.steps ≤ length d.steps + n
  claims_short d e k n claims few = short_by_tries d e (map Look claims.0 ++ Claim k ∷ []) n claims.1 (looks_and_claim_try P claims.0 k) few

  pub looks_more : (d e f : DeskView P) (k : ℕ) → LooksOnly d e → f ≡ with_steps e (Look k ∷ []) → LooksOnly d f
  looks_more d e f k looks is = (
    looks.0 ++ k ∷ [],
    is ∙ (ap (λ (x : DeskView P). with_steps x (Look k ∷ [])) looks.1 ∙ (with_steps-append d (map Look looks.0) (Look k ∷ []) ∙ ap (with_steps d) (sym (map_push {Y = Step P} Look looks.0 k)))),
  )

  pub looks_then_claims : (d e f : DeskView P) (k : ℕ) → LooksOnly d e → f ≡ with_steps e (Claim k ∷ []) → LooksThenClaims d f k
  looks_then_claims d e f k looks is =
      (looks.0, is ∙ (ap (λ (x : DeskView P). with_steps x (Claim k ∷ [])) looks.1 ∙ with_steps-append d (map Look looks.0) (Claim k ∷ [])))

  pub looks_none : (d : DeskView P) → LooksOnly d d
  looks_none d = ([], ap (λ (l : List (Step P)). record { board = d.board; number = d.number; steps = l }) (sym (append-nil d.steps)))

  pub held_after_step : (d e : DeskView P) (t : Step P) → e ≡ with_steps d (t ∷ []) → place_held e ≡ held_then (place_held d) t
  held_after_step d e t is = ap place_held is ∙ held-with_steps d (t ∷ [])

  -- what a sound desk holds is what its own steps tell
  pub held_is_told : (d : Inside P) → IsSoundDesk d → place_held (desk_view d) ≡ d.held
  held_is_told d sound =
      ap (λ (n : ℕ). held_after (first_held d.seat.me.0.count d.seat.me.0.workers n) (steps_in d.seat.me.0)) sound.numbered ∙ sym sound.holds
