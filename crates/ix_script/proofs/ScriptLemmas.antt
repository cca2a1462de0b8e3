-- What stretches of a script come to, one after another.
use Rattle.std.proofs.Common.{◌≡◌, ℕ, ◌∙◌, ◌+◌, ◌-◌, ◌<◌, ◌≤◌, ◌⊎◌, inl, inr, Bool, ◌||◌, List, [], ◌∷◌, ◌++◌, length, map, take, drop, Option, None, Some, refl, sym, ap, ap₂, subst, arith, Result, Ok, Err, IfErr, IsErrAnd, append_assoc, append-nil, length-append, length-drop, take-append-drop}
use Rattle.std.specs.Io.KnownBytes.{Appends}
use Rattle.std.proofs.lemmas.Grind.{flat_map-append}
use Rattle.std.proofs.Math.Seq.{take-add, take-append_seam}
use Rattle.std.proofs.lemmas.List.{length-map, map-append, take-map}
use Rattle.std.proofs.lemmas.List.Folds.{list_any-append}
use Rattle.ix_output.specs.Sinks.{AppendsFront}
use Rattle.ix_output.proofs.SinkLemmas.{appends_nothing, appends_then, nothing_from_keeps}
use Rattle.ix_live.specs.declared.live_error.LiveError.TheVariants as live
use Rattle.ix_script.specs.Groups.{IsCutAtPublish}
use Rattle.ix_script.specs.PrintedAnswers.{answer_lines, lines_of}
use Rattle.ix_script.specs.Runs.{Answered, Progress, Runs, is_some_name, published, some_found}
use Rattle.ix_script.specs.Scripts.{AreBehindGroup, ArePublished, IsPrinted, IsReason, lacking, refused, unpublished, unwritten}
use Rattle.ix_script.specs.Steps.{Publish, Step, Text}
use Rattle.ix_script.specs.Stops.{IsUnprinted, RefusesGroup}
use Rattle.ix_script.specs.Stretches.{CarriesOut, Stops}
use Rattle.ix_script.specs.declared.run_error.RunError.{RunError}
use Rattle.ix_script.specs.declared.run_error.RunError.TheVariants.{Collection, Live, Memory, Unread, Write}

-- ---- lists

-- the lines of answers and of more
lines_then : (answers more : List Answered) → lines_of (answers ++ more) ≡ lines_of answers ++ lines_of more
lines_then answers more = flat_map-append answer_lines answers more

-- whether there is a name in answers and in more
found_then : (answers more : List Answered) → some_found (answers ++ more) ≡ (some_found answers || some_found more)
found_then answers more = list_any-append (λ (a : Answered). is_some_name a.names) answers more

-- a gain, and then a beginning of more
front_then : (old middle new : Option Text) (first second : Text) → Appends old middle first → AppendsFront middle new second → AppendsFront old new (first ++ second)
front_then old middle new first second a b = record {
  front = first ++ b.front;
  rest = b.rest;
  parts = ap (λ l. first ++ l) b.parts ∙ sym (append_assoc first b.front b.rest);
  gained = appends_then old middle new first b.front a b.gained;
}

-- nothing was gained, whatever failed
printed_nothing : (known : Option Text) (error : RunError) → IsPrinted [] known known error
printed_nothing known Write = record { front = []; rest = []; parts = refl; gained = appends_nothing known }
printed_nothing known (Unread path) = appends_nothing known
printed_nothing known (Collection error) = appends_nothing known
printed_nothing known (Live error) = appends_nothing known
printed_nothing known Memory = appends_nothing known

-- a gain, and then what was printed before something failed
printed_then : (old middle new : Option Text) (first second : Text) (error : RunError) → Appends old middle first → IsPrinted second middle new error → IsPrinted (first ++ second) old new error
printed_then old middle new first second Write a b = front_then old middle new first second a b
printed_then old middle new first second (Unread path) a b = appends_then old middle new first second a b
printed_then old middle new first second (Collection error) a b = appends_then old middle new first second a b
printed_then old middle new first second (Live error) a b = appends_then old middle new first second a b
printed_then old middle new first second Memory a b = appends_then old middle new first second a b

-- if steps are published, and so are more
published_then : (steps more : List Step) → ArePublished steps → ArePublished more → ArePublished (steps ++ more)
published_then steps more first (inl none) = subst ArePublished (sym (ap (λ l. steps ++ l) none ∙ append-nil steps)) first
published_then steps more first (inr (earlier, is)) = inr (steps ++ earlier, ap (λ l. steps ++ l) is ∙ sym (append_assoc steps earlier (Publish ∷ [])))

-- steps that end with a publish
pub published_behind : (group steps : List Step) → steps ≡ group ++ Publish ∷ [] → ArePublished steps
published_behind group steps is = inr (group, is)

-- ---- the steps up to a place

-- the steps up to the first publish, and it
pub publish_cut : {X : Type 0} (f : X → Step) (steps rest : List X) (group : List Step) → map f steps ≡ group ++ Publish ∷ map f rest
    → map f (take (length steps - length rest) steps) ≡ group ++ Publish ∷ []
publish_cut {X} f steps rest group cut =
    let n = length steps - length rest in
    let front = group ++ Publish ∷ [] in
    let whole = cut ∙ sym (append_assoc group (Publish ∷ []) (map f rest)) in
    let counted : n ≡ length front = omega (arith, length-map steps f, length-map rest f, ap length whole, length-append front (map f rest)) in
    sym (take-map f n steps) ∙ ap (take n) whole ∙ ap (λ k. take k (front ++ map f rest)) counted ∙ take-append_seam front (map f rest)

-- the steps up to a place, and a number more
pub stretch_more : {X : Type 0} (f : X → Step) (steps : List X) (place count : ℕ)
    → map f (take (place + count) steps) ≡ map f (take place steps) ++ map f (take count (drop place steps))
stretch_more f steps place count = ap (map f) (take-add place count steps) ∙ map-append f (take place steps) (take count (drop place steps))

-- the steps up to a place, and those behind it
pub stretch_rest : {X : Type 0} (f : X → Step) (steps : List X) (place : ℕ) → map f steps ≡ map f (take place steps) ++ map f (drop place steps)
stretch_rest f steps place = ap (map f) (sym (take-append-drop place steps)) ∙ map-append f (take place steps) (drop place steps)

-- before the end the steps so far are published
pub so_far_published : {steps : List Step} {place all : ℕ} → ArePublished steps ⊎ place ≡ all → place < all → ArePublished steps
so_far_published (inl are) low = are
so_far_published (inr is) low = absurd (omega (arith, is, low))

-- and so are more, or they are all
pub more_is_published : {X : Type 0} (f : X → Step) (steps : List X) (place count : ℕ) → ArePublished (map f (take place steps))
    → ArePublished (map f (take count (drop place steps))) ⊎ count ≡ length (drop place steps) → place ≤ length steps
    → ArePublished (map f (take (place + count) steps)) ⊎ place + count ≡ length steps
more_is_published f steps place count before (inl are) within =
    inl (subst ArePublished (sym (stretch_more f steps place count)) (published_then (map f (take place steps)) (map f (take count (drop place steps))) before are))
more_is_published f steps place count before (inr is) within = inr (omega (arith, is, length-drop place steps, within))

-- what is behind a group
behind_group : (steps group : List Step) (rest : Option (List Step)) → IsCutAtPublish steps group rest → (more : List Step) × (steps ≡ group ++ more) × AreBehindGroup more
behind_group steps group None cut = ([], cut.0 ∙ sym (append-nil group), inl refl)
behind_group steps group (Some rest) cut = (Publish ∷ rest, cut.0, inr (rest, refl))

-- and so is what is left of it, with that behind it
left_of_group : (rest more : List Step) → AreBehindGroup rest → AreBehindGroup more → AreBehindGroup (rest ++ more)
left_of_group rest more (inl none) behind = subst (λ l. AreBehindGroup (l ++ more)) (sym none) behind
left_of_group rest more (inr (later, next)) behind = inr (later ++ more, ap (λ l. l ++ more) next)

-- what is so at an error is so at the same error, handed on
pub handed_on : {T : Type 0} (P : RunError → Type 0) (result : Result T RunError) (told : RunError) → IsErrAnd result (λ error. error ≡ told) → P told → IfErr result P
handed_on P (Ok value) told is holds = tt
handed_on P (Err error) told is holds = subst P (sym is) holds

-- ---- what steps do

module _ (holds : Text → Text → Type 0) (stop : List Text) where
  -- steps, and then more
  runs_then : (steps more : List Step) (before between after : Progress) (answers others : List Answered) → Runs holds stop steps before between answers → Runs holds stop more between after others
      → Runs holds stop (steps ++ more) before after (answers ++ others)
  runs_then [] more before between after answers others (same, none) then =
      subst (λ (p : Progress). Runs holds stop more p after (answers ++ others)) same (subst (λ l. Runs holds stop more between after (l ++ others)) (sym none) then)
  runs_then (step ∷ steps) more before between after answers others (middle, first, rest, does, ran, is) then =
      (middle, first, rest ++ others, does, runs_then steps more middle between after rest others ran then, ap (λ l. l ++ others) is ∙ append_assoc first rest others)

  -- a publish alone
  publish_runs : (before after : Progress) → after ≡ published before → Runs holds stop (Publish ∷ []) before after []
  publish_runs before after is = (after, [], [], (is, refl), (refl, refl), refl)

  -- a stretch, and then another
  pub carries_then : (steps more : List Step) (before between after : Progress) (old middle new : Option Text) (found other : Bool)
      → CarriesOut holds stop steps before between old middle found → CarriesOut holds stop more between after middle new other
      → CarriesOut holds stop (steps ++ more) before after old new (found || other)
  carries_then steps more before between after old middle new found other first second = record {
    answers = first.answers ++ second.answers;
    ran = runs_then steps more before between after first.answers second.answers first.ran second.ran;
    printed = subst (Appends old new) (sym (lines_then first.answers second.answers)) (appends_then old middle new (lines_of first.answers) (lines_of second.answers) first.printed second.printed);
    found_is = ap₂ (λ a b. a || b) first.found_is second.found_is ∙ sym (found_then first.answers second.answers);
  }

  -- a group, and then its publish
  pub carries_publish : (steps : List Step) (before between after : Progress) (old new : Option Text) (found : Bool)
      → CarriesOut holds stop steps before between old new found → after ≡ published between → CarriesOut holds stop (steps ++ Publish ∷ []) before after old new found
  carries_publish steps before between after old new found first is = record {
    answers = first.answers;
    ran = subst (Runs holds stop (steps ++ Publish ∷ []) before after) (append-nil first.answers) (runs_then steps (Publish ∷ []) before between after first.answers [] first.ran (publish_runs between after is));
    printed = first.printed;
    found_is = first.found_is;
  }

  module _ (workers : ℕ) where
    -- why steps were not carried out behind stretches that were
    reason_then : (first done rest : List Step) (now : Progress) (error : RunError) → ArePublished first → IsReason holds workers stop done rest now error → IsReason holds workers stop (first ++ done) rest now error
    reason_then first done rest now error are (lacking is all) = lacking is (published_then first done are all)
    reason_then first done rest now error are (refused all why) = refused (published_then first done are all) why
    reason_then first done rest now error are (unpublished is later next) = unpublished is later next
    reason_then first done rest now error are (unwritten is ends) = unwritten is ends

    -- a stretch that ends with its publish, and then one that is stopped
    pub carries_then_stops : (steps more : List Step) (before between : Progress) (old middle new : Option Text) (found : Bool) (error : RunError) → ArePublished steps
        → CarriesOut holds stop steps before between old middle found → Stops holds workers stop more between middle new error → Stops holds workers stop (steps ++ more) before old new error
    carries_then_stops steps more before between old middle new found error are first second = record {
      done = steps ++ second.done;
      rest = second.rest;
      now = second.now;
      answers = first.answers ++ second.answers;
      cut = ap (λ l. steps ++ l) second.cut ∙ sym (append_assoc steps second.done second.rest);
      ran = runs_then steps second.done before between second.now first.answers second.answers first.ran second.ran;
      printed = subst (λ l. IsPrinted l old new error) (sym (lines_then first.answers second.answers))
          (printed_then old middle new (lines_of first.answers) (lines_of second.answers) error first.printed second.printed);
      reason = reason_then steps second.done second.rest second.now error are second.reason;
    }

    -- more steps behind those that were not carried out
    reason_behind : (done rest more : List Step) (now : Progress) (error : RunError) → AreBehindGroup more → IsReason holds workers stop done rest now error → IsReason holds workers stop done (rest ++ more) now error
    reason_behind done rest more now error behind (lacking is all) = lacking is all
    reason_behind done rest more now error behind (refused all why) = refused all record {
      earlier = why.earlier;
      step = why.step;
      later = why.later ++ more;
      now = why.now;
      cut = ap (λ l. l ++ more) why.cut ∙ append_assoc why.earlier (why.step ∷ why.later) more;
      changed = why.changed;
      refused = why.refused;
    }
    reason_behind done rest more now error behind (unpublished is later next) = unpublished is (later ++ more) (ap (λ l. l ++ more) next)
    reason_behind done rest more now error behind (unwritten is ends) = unwritten is (left_of_group rest more ends behind)

    -- a group that is stopped is stopped with more behind it
    stops_before : (steps more all : List Step) (before : Progress) (old new : Option Text) (error : RunError) → all ≡ steps ++ more → AreBehindGroup more → Stops holds workers stop steps before old new error
        → Stops holds workers stop all before old new error
    stops_before steps more all before old new error is behind stops = record {
      done = stops.done;
      rest = stops.rest ++ more;
      now = stops.now;
      answers = stops.answers;
      cut = is ∙ ap (λ l. l ++ more) stops.cut ∙ append_assoc stops.done stops.rest more;
      ran = stops.ran;
      printed = stops.printed;
      reason = reason_behind stops.done stops.rest more stops.now error behind stops.reason;
    }

    -- if the group in front is stopped, so are the steps
    pub group_stops : (steps group : List Step) (rest : Option (List Step)) (before : Progress) (old new : Option Text) (error : RunError) → IsCutAtPublish steps group rest
        → Stops holds workers stop group before old new error → Stops holds workers stop steps before old new error
    group_stops steps group rest before old new error cut stops = let (more, is, behind) = behind_group steps group rest cut in stops_before group more steps before old new error is behind stops

    -- nothing was done
    stops_at_once : (steps : List Step) (before : Progress) (known : Option Text) (error : RunError) → IsReason holds workers stop [] steps before error → Stops holds workers stop steps before known known error
    stops_at_once steps before known error why = record {
      done = [];
      rest = steps;
      now = before;
      answers = [];
      cut = refl;
      ran = (refl, refl);
      printed = printed_nothing known error;
      reason = why;
    }

    -- a group failed
    pub group_refused : (steps : List Step) (before : Progress) (known : Option Text) (error : RunError) → RefusesGroup holds workers stop steps before error → Stops holds workers stop steps before known known error
    group_refused steps before known error (inl is) = stops_at_once steps before known error (lacking is (inl refl))
    group_refused steps before known error (inr why) = stops_at_once steps before known error (refused (inl refl) why)

    -- the answers of a group were not written
    pub group_unwritten : (steps : List Step) (before after : Progress) (answers : List Answered) (old new : Option Text) (error : RunError) → Runs holds stop steps before after answers
        → IsUnprinted (lines_of answers) old new error → Stops holds workers stop steps before old new error
    group_unwritten steps before after answers old new Write ran why = record {
      done = steps;
      rest = [];
      now = after;
      answers = answers;
      cut = sym (append-nil steps);
      ran = ran;
      printed = why;
      reason = unwritten refl (inl refl);
    }
    group_unwritten steps before after answers old new Memory ran why = record {
      done = [];
      rest = steps;
      now = before;
      answers = [];
      cut = refl;
      ran = (refl, refl);
      printed = nothing_from_keeps old new why;
      reason = lacking refl (inl refl);
    }
    group_unwritten steps before after answers old new (Unread path) ran why = absurd why
    group_unwritten steps before after answers old new (Collection error) ran why = absurd why
    group_unwritten steps before after answers old new (Live error) ran why = absurd why

    -- a group was carried out, and not published
    pub group_unpublished : (group rest all : List Step) (before after : Progress) (old new : Option Text) (found : Bool) (error : RunError) → all ≡ group ++ Publish ∷ rest → error ≡ Live live.Memory
        → CarriesOut holds stop group before after old new found → Stops holds workers stop all before old new error
    group_unpublished group rest all before after old new found error cut is first = record {
      done = group;
      rest = Publish ∷ rest;
      now = after;
      answers = first.answers;
      cut = cut;
      ran = first.ran;
      printed = subst (IsPrinted (lines_of first.answers) old new) (sym is) first.printed;
      reason = unpublished is rest refl;
    }
