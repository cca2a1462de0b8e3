-- A text has one list of steps or one fault, and never both.
use Rattle.std.proofs.Common.{◌≡◌, ◌≢◌, ℕ, suc, ◌+◌, ◌<◌, ◌↔◌, inl, inr, List, [], ◌∷◌, ◌++◌, All, length, filter, map, get_or, Ok, refl, sym, ap, ap₂, subst, ◌∙◌, arith, length-append}
use Rattle.std.specs.Prelude.{codes, decimal}
use Rattle.std.proofs.lemmas.Fmt.{decimal_injective}
use Rattle.std.proofs.lemmas.List.Elements.{All-head, All-tail, All-nil, All-cons}
use Rattle.ix_query.specs.Tree.{Tree}
use Rattle.ix_query.specs.Grammar.{Reads}
use Rattle.ix_query.specs.Machine.{query_of}
use Rattle.ix_text.specs.StopText.{IsCutAtLineFeeds}
use Rattle.ix_text.proofs.StopTextLemmas.{cut_is, lines_of, lines_of-nil}
use Rattle.ix_script.specs.ScriptFaults.{IsLineFault, IsScriptFault, IsScriptLine}
use Rattle.ix_script.specs.Steps.{Add, Ask, IsLawful, IsLineOf, IsScript, Publish, Remove, Step, Text, is_filled, line_of}
use Rattle.ix_script.specs.declared.script_error.ScriptError.{ScriptError}
use Rattle.ix_script.specs.declared.script_error.ScriptError.TheVariants as fault

-- a text reads as one tree
abbrev pub OneTree : Type 0
OneTree = (stop : List Text) (text : Text) (one other : Tree) → Reads stop text one → Reads stop text other → one ≡ other

-- the function that names the first fault gives the tree of a text that reads as one
abbrev pub TreeGiven : Type 0
TreeGiven = (stop : List Text) (text : Text) (query : Tree) → (query_of stop text ≡ Ok query) ↔ Reads stop text query

-- ---- one step of a line

-- lines with another byte at a place are others
apart : (one other : Text) (place first second : ℕ) → get_or one place 0 ≡ first → get_or other place 0 ≡ second → first ≢ second → one ≢ other
apart one other place first second is also differ same = differ (sym is ∙ ap (λ l. get_or l place 0) same ∙ also)

one_step : OneTree → (stop : List Text) (one other : Step) → line_of one ≡ line_of other → IsLawful stop one → IsLawful stop other → one ≡ other
one_step trees stop (Add path) (Add other) same first second = ap Add (cc)
one_step trees stop (Add path) Publish same first second = absurd (apart (line_of (Add path)) (line_of Publish) 0 97 112 refl refl (λ e. absurd (omega arith)) same)
one_step trees stop (Add path) (Ask query tree) same first second = absurd (apart (line_of (Add path)) (line_of (Ask query tree)) 1 100 115 refl refl (λ e. absurd (omega arith)) same)
one_step trees stop (Add path) (Remove number) same first second = absurd (apart (line_of (Add path)) (line_of (Remove number)) 0 97 114 refl refl (λ e. absurd (omega arith)) same)
one_step trees stop Publish (Add path) same first second = absurd (apart (line_of Publish) (line_of (Add path)) 0 112 97 refl refl (λ e. absurd (omega arith)) same)
one_step trees stop Publish Publish same first second = refl
one_step trees stop Publish (Ask query tree) same first second = absurd (apart (line_of Publish) (line_of (Ask query tree)) 0 112 97 refl refl (λ e. absurd (omega arith)) same)
one_step trees stop Publish (Remove number) same first second = absurd (apart (line_of Publish) (line_of (Remove number)) 0 112 114 refl refl (λ e. absurd (omega arith)) same)
one_step trees stop (Ask query tree) (Add path) same first second = absurd (apart (line_of (Ask query tree)) (line_of (Add path)) 1 115 100 refl refl (λ e. absurd (omega arith)) same)
one_step trees stop (Ask query tree) Publish same first second = absurd (apart (line_of (Ask query tree)) (line_of Publish) 0 97 112 refl refl (λ e. absurd (omega arith)) same)
one_step trees stop (Ask query tree) (Ask other its) same first second =
    let text : query ≡ other = cc in
    ap₂ Ask text (trees stop other tree its (subst (λ (q : Text). Reads stop q tree) text first.1) second.1)
one_step trees stop (Ask query tree) (Remove number) same first second = absurd (apart (line_of (Ask query tree)) (line_of (Remove number)) 0 97 114 refl refl (λ e. absurd (omega arith)) same)
one_step trees stop (Remove number) (Add path) same first second = absurd (apart (line_of (Remove number)) (line_of (Add path)) 0 114 97 refl refl (λ e. absurd (omega arith)) same)
one_step trees stop (Remove number) Publish same first second = absurd (apart (line_of (Remove number)) (line_of Publish) 0 114 112 refl refl (λ e. absurd (omega arith)) same)
one_step trees stop (Remove number) (Ask query tree) same first second = absurd (apart (line_of (Remove number)) (line_of (Ask query tree)) 0 114 97 refl refl (λ e. absurd (omega arith)) same)
one_step trees stop (Remove number) (Remove other) same first second =
    let digits : decimal number ≡ decimal other = cc in
    ap Remove (decimal_injective number other (omega arith) (omega arith) digits)

steps_of_lines : OneTree → (stop : List Text) (ones others : List Step) → map line_of ones ≡ map line_of others → All (IsLawful stop) ones → All (IsLawful stop) others → ones ≡ others
steps_of_lines trees stop [] [] same first second = refl
steps_of_lines trees stop [] (step ∷ steps) same first second = absurd (cc)
steps_of_lines trees stop (step ∷ steps) [] same first second = absurd (cc)
steps_of_lines trees stop (one ∷ ones) (other ∷ others) same first second =
    let line : line_of one ≡ line_of other = cc in
    let lines : map line_of ones ≡ map line_of others = cc in
    ap₂ (λ x xs. x ∷ xs) (one_step trees stop one other line (All-head (IsLawful stop) one ones first) (All-head (IsLawful stop) other others second))
    (steps_of_lines trees stop ones others lines (All-tail (IsLawful stop) one ones first) (All-tail (IsLawful stop) other others second))

-- ---- the lines of a text

-- however a text is cut, its lines that are not empty are the same
filled_lines : (text : Text) (lines : List Text) → IsCutAtLineFeeds text lines → filter is_filled lines ≡ filter is_filled (lines_of text)
filled_lines text [] cut = ap (filter is_filled) (sym (ap lines_of cut.joined ∙ lines_of-nil))
filled_lines text (line ∷ lines) cut = ap (filter is_filled) (sym (cut_is text line lines cut))

pub one_script : OneTree → (stop : List Text) (text : Text) (steps others : List Step) → IsScript stop text steps → IsScript stop text others → steps ≡ others
one_script trees stop text steps others first second =
    steps_of_lines trees stop steps others
    (sym first.spelled ∙ filled_lines text first.lines first.cut ∙ sym (filled_lines text second.lines second.cut) ∙ second.spelled)
    first.lawful second.lawful

-- ---- faults

-- a line with a fault is none that a script may have
fault_excludes : TreeGiven → (stop : List Text) (line : Text) (number : ℕ) (error : ScriptError) → IsLineFault stop line number error → ¬ (IsScriptLine stop line)
fault_excludes given stop line number (fault.Line at) (same, none) (inl empty) = none.filled empty
fault_excludes given stop line number (fault.Line at) (same, none) (inr (step, is)) = excludes step is
  where
    excludes : (step : Step) → IsLineOf stop line step → ⊥
    excludes (Add path) is = none.no_add path is.1 is.0
    excludes Publish is = none.no_publish is.0
    excludes (Ask query tree) is = none.no_ask query is.1.0 is.0
    excludes (Remove number) is = none.no_remove number is.1 is.0
fault_excludes given stop line number (fault.Query at error) (query, some, asks, is) (inl empty) = let clash = sym asks ∙ empty in absurd (cc)
fault_excludes given stop line number (fault.Query at error) (query, some, asks, is) (inr (step, of)) = excludes step of
  where
    excludes : (step : Step) → IsLineOf stop line step → ⊥
    excludes (Add path) of = apart (line_of (Add path)) (codes "ask " ++ query) 1 100 115 refl refl (λ e. absurd (omega arith)) (sym of.0 ∙ asks)
    excludes Publish of = apart (line_of Publish) (codes "ask " ++ query) 0 112 97 refl refl (λ e. absurd (omega arith)) (sym of.0 ∙ asks)
    excludes (Ask other tree) of =
        let same : codes "ask " ++ other ≡ codes "ask " ++ query = sym of.0 ∙ asks in
        let text : other ≡ query = cc in
        let clash = sym ((given stop other tree).1 of.1.1) ∙ ap (query_of stop) text ∙ is.1 in
        absurd (cc)
    excludes (Remove number) of = apart (line_of (Remove number)) (codes "ask " ++ query) 0 114 97 refl refl (λ e. absurd (omega arith)) (sym of.0 ∙ asks)
fault_excludes given stop line number fault.Memory none read = none

-- a line has one fault
same_line_fault : (stop : List Text) (line : Text) (number : ℕ) (one other : ScriptError) → IsLineFault stop line number one → IsLineFault stop line number other → one ≡ other
same_line_fault stop line number (fault.Line a) (fault.Line b) f g = ap fault.Line (f.0 ∙ sym g.0)
same_line_fault stop line number (fault.Line a) (fault.Query b error) f (query, some, asks, is) = absurd (f.1.no_ask query some asks)
same_line_fault stop line number (fault.Line a) fault.Memory f g = absurd g
same_line_fault stop line number (fault.Query a error) (fault.Line b) (query, some, asks, is) g = absurd (g.1.no_ask query some asks)
same_line_fault stop line number (fault.Query a error) (fault.Query b other) (query, some, asks, is) (text, full, asked, known) =
    let same : codes "ask " ++ query ≡ codes "ask " ++ text = sym asks ∙ asked in
    let texts : query ≡ text = cc in
    let both = sym is.1 ∙ ap (query_of stop) texts ∙ known.1 in
    ap₂ fault.Query (is.0 ∙ sym known.0) (cc)
same_line_fault stop line number (fault.Query a error) fault.Memory f g = absurd g
same_line_fault stop line number fault.Memory other f g = absurd f

-- if two lists are cut at their first lines that cannot be read, they are cut at one place
same_place : (P : Text → Type 0) (xs ys : List Text) (a b : Text) (cs bs : List Text) → All P xs → All P ys → ¬ (P a) → ¬ (P b)
    → xs ++ a ∷ cs ≡ ys ++ b ∷ bs → (length xs ≡ length ys) × (a ≡ b)
same_place P [] [] a b cs bs all_x all_y bad_a bad_b e = (refl, cc)
same_place P [] (y ∷ ys) a b cs bs all_x all_y bad_a bad_b e =
    let first : a ≡ y = cc in absurd (bad_a (subst P (sym first) (All-head P y ys all_y)))
same_place P (x ∷ xs) [] a b cs bs all_x all_y bad_a bad_b e =
    let first : x ≡ b = cc in absurd (bad_b (subst P first (All-head P x xs all_x)))
same_place P (x ∷ xs) (y ∷ ys) a b cs bs all_x all_y bad_a bad_b e =
    let rest : xs ++ a ∷ cs ≡ ys ++ b ∷ bs = cc in
    let place = same_place P xs ys a b cs bs (All-tail P x xs all_x) (All-tail P y ys all_y) bad_a bad_b rest in
    (ap suc place.0, place.1)

cut_of_some : (text : Text) (lines : List Text) → 0 < length lines → IsCutAtLineFeeds text lines → lines_of text ≡ lines
cut_of_some text [] some cut = absurd (omega arith)
cut_of_some text (line ∷ lines) some cut = cut_is text line lines cut

cut_of_fault : (stop : List Text) (text : Text) (error : ScriptError) (f : IsScriptFault stop text error) → lines_of text ≡ f.before ++ f.line ∷ f.after
cut_of_fault stop text error f = cut_of_some text (f.before ++ f.line ∷ f.after) (omega (arith, length-append f.before (f.line ∷ f.after))) f.cut

pub one_fault : TreeGiven → (stop : List Text) (text : Text) (one other : ScriptError) → IsScriptFault stop text one → IsScriptFault stop text other → one ≡ other
one_fault given stop text one other f g =
    let place = same_place (IsScriptLine stop) f.before g.before f.line g.line f.after g.after f.earlier g.earlier
    (fault_excludes given stop f.line (length f.before + 1) one f.fault_of_line) (fault_excludes given stop g.line (length g.before + 1) other g.fault_of_line)
    (sym (cut_of_fault stop text one f) ∙ cut_of_fault stop text other g) in
    same_line_fault stop g.line (length g.before + 1) one other
    (subst (λ (n : ℕ). IsLineFault stop g.line n one) (ap (λ n. n + 1) place.0) (subst (λ (l : Text). IsLineFault stop l (length f.before + 1) one) place.1 f.fault_of_line)) g.fault_of_line

-- the steps of a script are those of its lines that are not empty, so each line is one that a script may have
script_lines : (stop : List Text) (lines : List Text) (steps : List Step) → filter is_filled lines ≡ map line_of steps → All (IsLawful stop) steps → All (IsScriptLine stop) lines
script_lines stop [] steps spelled lawful = All-nil (IsScriptLine stop)
script_lines stop ([] ∷ lines) steps spelled lawful = All-cons (IsScriptLine stop) [] lines (inl refl) (script_lines stop lines steps spelled lawful)
script_lines stop ((byte ∷ bytes) ∷ lines) [] spelled lawful = absurd (cc)
script_lines stop ((byte ∷ bytes) ∷ lines) (step ∷ steps) spelled lawful =
    let line : byte ∷ bytes ≡ line_of step = cc in
    let rest : filter is_filled lines ≡ map line_of steps = cc in
    All-cons (IsScriptLine stop) (byte ∷ bytes) lines (inr (step, (line, All-head (IsLawful stop) step steps lawful)))
    (script_lines stop lines steps rest (All-tail (IsLawful stop) step steps lawful))

All-middle : (P : Text → Type 0) (xs : List Text) (y : Text) (ys : List Text) → All P (xs ++ y ∷ ys) → P y
All-middle P [] y ys all = All-head P y ys all
All-middle P (x ∷ xs) y ys all = All-middle P xs y ys (All-tail P x (xs ++ y ∷ ys) all)

pub faults_exclude : TreeGiven → (stop : List Text) (text : Text) (error : ScriptError) (steps : List Step) → IsScriptFault stop text error → ¬ (IsScript stop text steps)
faults_exclude given stop text error steps f read =
    let spelled : filter is_filled (lines_of text) ≡ map line_of steps = sym (filled_lines text read.lines read.cut) ∙ read.spelled in
    let lines = script_lines stop (lines_of text) steps spelled read.lawful in
    fault_excludes given stop f.line (length f.before + 1) error f.fault_of_line
    (All-middle (IsScriptLine stop) f.before f.line f.after (subst (All (IsScriptLine stop)) (cut_of_fault stop text error f) lines))
