-- Lines of a script, read one after another.
use Rattle.std.proofs.Common.{◌≡◌, ℕ, ◌+◌, ◌≤◌, ◌⊎◌, inl, inr, true, List, [], ◌∷◌, ◌++◌, All, Contains, length, filter, map, refl, sym, ap, subst, ◌∙◌, arith, append_assoc, length-append}
use Rattle.std.proofs.lemmas.List.{append-nil, map-append}
use Rattle.std.proofs.lemmas.List.Elements.{All-append, All-nil, All-push, filter-append}
use Rattle.ix_text.specs.StopText.{IsCutAtLineFeeds, joined_lines}
use Rattle.ix_text.proofs.StopTextLemmas.{IsUnbroken, cut_at_line_feeds, ended, lines_of}
use Rattle.ix_script.specs.ScriptFaults.{IsLineFault, IsScriptFault, IsScriptLine}
use Rattle.ix_script.specs.Steps.{AddsLine, IsLawful, IsScript, Step, Text, is_filled, line_of}
use Rattle.ix_script.specs.declared.script_error.ScriptError.{ScriptError}
use Rattle.ix_script.specs.declared.script_error.ScriptError.TheVariants.{Memory}
use Rattle.ix_script.proofs.LineLemmas.{line_filled}

-- ---- lines and the text that they join to

ended-push : (lines : List Text) (line : Text) → ended (lines ++ line ∷ []) ≡ ended lines ++ (line ++ 10 ∷ [])
unfolding ended
ended-push [] line = refl
ended-push (first ∷ lines) line =
    ap (λ l. first ++ 10 ∷ l) (ended-push lines line) ∙ sym (append_assoc first (10 ∷ ended lines) (line ++ 10 ∷ []))

joined-append : (lines : List Text) (line : Text) (more : List Text) → joined_lines (lines ++ line ∷ more) ≡ ended lines ++ joined_lines (line ∷ more)
unfolding ended
joined-append [] line more = refl
joined-append (first ∷ []) line more = sym (append_assoc first (10 ∷ []) (joined_lines (line ∷ more)))
joined-append (first ∷ next ∷ lines) line more =
    ap (λ l. first ++ 10 ∷ l) (joined-append (next ∷ lines) line more)
    ∙ sym (append_assoc first (10 ∷ ended (next ∷ lines)) (joined_lines (line ∷ more)))

-- a text has a first line
first_line : (text : Text) → (line : Text) × (more : List Text) × IsCutAtLineFeeds text (line ∷ more)
first_line text = go (lines_of text) refl
  where
    go : (lines : List Text) → lines_of text ≡ lines → (line : Text) × (more : List Text) × IsCutAtLineFeeds text (line ∷ more)
    go [] none =
        let cut = subst (IsCutAtLineFeeds text) none (cut_at_line_feeds text) in
        ([], [], record { joined = cut.joined; unbroken = All-push IsUnbroken [] [] cut.unbroken (λ (k, low, is). absurd (omega arith)) })
    go (line ∷ more) is = (line, more, subst (IsCutAtLineFeeds text) is (cut_at_line_feeds text))

-- ---- a number of lines is read

-- this many lines of the text are read, with these steps, and this is left
pub record IsReadUpTo (stop : List Text) (text : Text) (number : ℕ) (steps : List Step) (left : Text) : Type 0 where
  pub done : List Text
  pub joined : text ≡ ended done ++ left
  pub unbroken : All IsUnbroken done
  pub spelled : filter is_filled done ≡ map line_of steps
  pub lawful : All (IsLawful stop) steps
  pub earlier : All (IsScriptLine stop) done
  pub numbered : number ≡ length done + 1
  pub few_lines : number + length left ≤ length text + 1

pub read_nothing : (stop : List Text) (text : Text) (steps : List Step) → steps ≡ [] → IsReadUpTo stop text 1 steps text
unfolding ended
read_nothing stop text steps none =
    record {
      done = [];
      joined = refl;
      unbroken = All-nil IsUnbroken;
      spelled = ap (map line_of) (sym none);
      lawful = subst (All (IsLawful stop)) (sym none) (All-nil (IsLawful stop));
      earlier = All-nil (IsScriptLine stop);
      numbered = refl;
      few_lines = omega arith;
    }

-- the line is one that a script may have
is_line : (stop : List Text) (line : Text) (steps more : List Step) → AddsLine stop line steps more → IsScriptLine stop line
is_line stop line steps more (inl (empty, same)) = inl empty
is_line stop line steps more (inr (step, is, added)) = inr (step, is)

kept : (line : Text) → is_filled line ≡ true → filter is_filled (line ∷ []) ≡ line ∷ []
kept line is = rw is refl

-- the lines that are not empty stay those of the steps
spelled_more : (stop : List Text) (done : List Text) (line : Text) (steps more : List Step) → filter is_filled done ≡ map line_of steps → AddsLine stop line steps more
    → filter is_filled (done ++ line ∷ []) ≡ map line_of more
spelled_more stop done line steps more spelled (inl (empty, same)) =
    filter-append is_filled done (line ∷ []) ∙ ap (λ l. filter is_filled done ++ filter is_filled (l ∷ [])) empty ∙ append-nil (filter is_filled done) ∙ spelled ∙ ap (map line_of) (sym same)
spelled_more stop done line steps more spelled (inr (step, is, added)) =
    filter-append is_filled done (line ∷ []) ∙ ap (λ l. filter is_filled done ++ l) (kept line (ap is_filled is.0 ∙ line_filled step))
    ∙ ap (λ l. l ++ line ∷ []) spelled ∙ ap (λ l. map line_of steps ++ l ∷ []) is.0
    ∙ sym (map-append line_of steps (step ∷ [])) ∙ ap (map line_of) (sym added)

lawful_more : (stop : List Text) (line : Text) (steps more : List Step) → All (IsLawful stop) steps → AddsLine stop line steps more → All (IsLawful stop) more
lawful_more stop line steps more lawful (inl (empty, same)) = subst (All (IsLawful stop)) (sym same) lawful
lawful_more stop line steps more lawful (inr (step, is, added)) = subst (All (IsLawful stop)) (sym added) (All-push (IsLawful stop) steps step lawful is.1)

pub read_line_more : (stop : List Text) (text : Text) (number : ℕ) (steps more : List Step) (left line next : Text) → IsReadUpTo stop text number steps left
    → left ≡ line ++ 10 ∷ next → ¬ (Contains line 10) → AddsLine stop line steps more → IsReadUpTo stop text (number + 1) more next
read_line_more stop text number steps more left line next r is unbroken adds =
    let length_left = ap length is ∙ length-append line (10 ∷ next) in
    record {
      done = r.done ++ line ∷ [];
      joined = r.joined ∙ ap (λ l. ended r.done ++ l) (is ∙ sym (append_assoc line (10 ∷ []) next))
          ∙ sym (append_assoc (ended r.done) (line ++ 10 ∷ []) next) ∙ ap (λ l. l ++ next) (sym (ended-push r.done line));
      unbroken = All-push IsUnbroken r.done line r.unbroken unbroken;
      spelled = spelled_more stop r.done line steps more r.spelled adds;
      lawful = lawful_more stop line steps more r.lawful adds;
      earlier = All-push (IsScriptLine stop) r.done line r.earlier (is_line stop line steps more adds);
      numbered = omega (arith, r.numbered, length-append r.done (line ∷ []));
      few_lines = omega (arith, r.few_lines, length_left);
    }

-- all lines are read
pub read_all : (stop : List Text) (text : Text) (number : ℕ) (steps more : List Step) (left : Text) → IsReadUpTo stop text number steps left
    → ¬ (Contains left 10) → AddsLine stop left steps more → IsScript stop text more
read_all stop text number steps more left r unbroken adds =
    record {
      lines = r.done ++ left ∷ [];
      cut = record { joined = r.joined ∙ sym (joined-append r.done left []); unbroken = All-push IsUnbroken r.done left r.unbroken unbroken };
      spelled = spelled_more stop r.done left steps more r.spelled adds;
      lawful = lawful_more stop left steps more r.lawful adds;
    }

-- ---- the fault of the first line that is left

fault_of_text : (stop : List Text) (text left : Text) (number : ℕ) (steps : List Step) (line : Text) (after : List Text) (fault : ScriptError) → IsReadUpTo stop text number steps left
    → left ≡ joined_lines (line ∷ after) → All IsUnbroken (line ∷ after) → IsLineFault stop line number fault → IsScriptFault stop text fault
fault_of_text stop text left number steps line after fault r is unbroken of_line =
    record {
      before = r.done;
      line = line;
      after = after;
      cut = record {
        joined = r.joined ∙ ap (λ l. ended r.done ++ l) is ∙ sym (joined-append r.done line after);
        unbroken = All-append IsUnbroken r.done (line ∷ after) r.unbroken unbroken;
      };
      earlier = r.earlier;
      fault_of_line = subst (λ (n : ℕ). IsLineFault stop line n fault) r.numbered of_line;
    }

pub fault_from_line : (stop : List Text) (text : Text) (number : ℕ) (steps : List Step) (left line next : Text) (fault : ScriptError) → IsReadUpTo stop text number steps left
    → left ≡ line ++ 10 ∷ next → ¬ (Contains line 10) → (fault ≡ Memory) ⊎ IsLineFault stop line number fault → (fault ≡ Memory) ⊎ IsScriptFault stop text fault
fault_from_line stop text number steps left line next fault r is unbroken (inl memory) = inl memory
fault_from_line stop text number steps left line next fault r is unbroken (inr of_line) =
    let (first, more, cut) = first_line next in
    inr (fault_of_text stop text left number steps line (first ∷ more) fault r (is ∙ ap (λ l. line ++ 10 ∷ l) cut.joined)
    (All-append IsUnbroken (line ∷ []) (first ∷ more) (All-push IsUnbroken [] line (All-nil IsUnbroken) unbroken) cut.unbroken) of_line)

pub fault_from_last : (stop : List Text) (text : Text) (number : ℕ) (steps : List Step) (left : Text) (fault : ScriptError) → IsReadUpTo stop text number steps left
    → ¬ (Contains left 10) → (fault ≡ Memory) ⊎ IsLineFault stop left number fault → (fault ≡ Memory) ⊎ IsScriptFault stop text fault
fault_from_last stop text number steps left fault r unbroken (inl memory) = inl memory
fault_from_last stop text number steps left fault r unbroken (inr of_line) =
    inr (fault_of_text stop text left number steps left [] fault r refl (All-push IsUnbroken [] left (All-nil IsUnbroken) unbroken) of_line)
