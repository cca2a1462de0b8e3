-- Where a text is cut, and what the lines of documents say of it.
use Rattle.std.proofs.Common.{◌≡◌, ℕ, suc, ◌+◌, ◌<◌, ◌≤◌, inl, inr, ⊎_elim, Option, Some, None, List, [], ◌∷◌, ◌++◌, length, get_or, take, drop, refl, sym, ap, subst, ◌∙◌, arith, append_assoc, length-append, Contains, IsUtf8, MatchOption, flat_map, ◌^◌}
use Rattle.std.proofs.lemmas.List.{append-nil, drop_more, take_at, drop_at, get_or_at, take-append-drop, get_or-take, get_or_default, length-take-le}
use Rattle.std.proofs.lemmas.Grind.{flat_map-append}
use Rattle.std.proofs.lemmas.List.Elements.{All-push, Contains-append_left, Contains-append_right}
use Rattle.std.proofs.lemmas.Str.{IsUtf8-take, IsUtf8-drop, IsCharBoundary-before_ascii, IsCharBoundary-after_ascii}
use Rattle.std.proofs.lemmas.Bool.{eqb-true, eq-eqb}
use Rattle.memchr.specs.Find.{IsFirstByte, is_byte}
use denote.Ref.{Bor}
use Rattle.ix_text.specs.Collections.{NamedText, IsName}
use Rattle.ix_text.specs.CollectionText.{line_of, IsCollectionText}
use Rattle.ix_text.specs.declared.collection.CollectionError.{CollectionError}
use Rattle.ix_text.specs.declared.collection.CollectionError.TheVariants.{TooLarge, NotUtf8, NoTab, Name, NoLineEnd, Memory}
use Rattle.ix_text.specs.CollectionFaults.{IsCutAtFirst, IsFirstLine, IsNameSize, IsLineFault, IsReadUpTo, IsCollectionFault}

-- a search for a byte cuts the text at the first such byte
pub cut_from_search : (text : List ℕ) (byte k : ℕ) → IsFirstByte (is_byte byte) text (Some k) → IsCutAtFirst text byte (take k text) (drop (k + 1) text)
cut_from_search text byte k h =
    let below : k < length text = h.0.high in
    let at : get_or text k 0 ≡ byte = eqb-true (get_or text k 0) byte h.1 in
    record {
      joined = sym (take-append-drop k text) ∙ ap (λ back. take k text ++ back) (drop_more text k 0 below ∙ ap (λ b. b ∷ drop (k + 1) text) at);
      first = λ (j, within, is).
          let short : length (take k text) ≡ k = length-take-le k text (omega arith) in
          let before : j < k = omega arith in
          let same : get_or text j 0 ≡ byte =
          get_or_default text j 0 byte (omega arith) ∙ sym (get_or-take k text j byte before) ∙ is in
          h.0.before j (omega arith) before (eq-eqb (get_or text j 0) byte same);
    }

-- the line that was found is the first
pub IsFirstLine-from_cut : (text line : List ℕ) (next : Option (Bor (List ℕ)))
    → MatchOption next ((text ≡ line) × ¬ (Contains text 10)) (λ n. IsCutAtFirst text 10 line n.now) → IsFirstLine text line
IsFirstLine-from_cut text line None h = inr h
IsFirstLine-from_cut text line (Some n) h = inl (n.now, h)

Contains-tail : (x : ℕ) (xs : List ℕ) (y : ℕ) → Contains xs y → Contains (x ∷ xs) y
Contains-tail x xs y (k, within, is) = (suc k, omega arith, is)

-- both parts of a text that is cut at an ASCII byte are text
pub cut_texts : (text : List ℕ) (byte : ℕ) (front back : List ℕ) → text ≡ front ++ byte ∷ back → byte < 128 → IsUtf8 text → IsUtf8 front × IsUtf8 back
cut_texts text byte front back is ascii u =
    let joined : IsUtf8 (front ++ byte ∷ back) = subst IsUtf8 is u in
    let count = length front in
    let at : get_or (front ++ byte ∷ back) count 0 ≡ byte = get_or_at front byte back 0 count refl in
    let within : count < length (front ++ byte ∷ back) = simp length-append (omega arith) in
    let low : get_or (front ++ byte ∷ back) count 0 < 128 = rw at ascii in
    let before = IsUtf8-take (front ++ byte ∷ back) count joined (IsCharBoundary-before_ascii (front ++ byte ∷ back) count within low) in
    let after = IsUtf8-drop (front ++ byte ∷ back) (count + 1) joined (IsCharBoundary-after_ascii (front ++ byte ∷ back) count joined within low) in
    let past : drop (count + 1) (front ++ byte ∷ back) ≡ back =
    ap (drop (count + 1)) (sym (append_assoc front (byte ∷ []) back)) ∙ drop_at (front ++ byte ∷ []) back (count + 1) (simp length-append (omega arith)) in
    (subst IsUtf8 (take_at front (byte ∷ back) count refl) before, subst IsUtf8 past after)

-- a first line has no LF, and is text where the text is
pub first_line_unbroken : (text line : List ℕ) → IsFirstLine text line → ¬ (Contains line 10)
first_line_unbroken text line h = ⊎_elim (λ c. c.1.first) (λ c. subst (λ (l : List ℕ). ¬ (Contains l 10)) c.0 c.1) h

pub first_line_text : (text line : List ℕ) → IsFirstLine text line → IsUtf8 text → IsUtf8 line
first_line_text text line h u = ⊎_elim (λ c. (cut_texts text 10 line c.0 c.1.joined (omega arith) u).0) (λ c. subst IsUtf8 c.0 u) h

-- the name and the text of a line that is cut at its first TAB
pub IsName-from_line : (text line name rest : List ℕ) → IsUtf8 text → IsFirstLine text line → IsCutAtFirst line 9 name rest → IsNameSize name → IsName name
IsName-from_line text line name rest u first cut size = record {
  characters = (cut_texts line 9 name rest cut.joined (omega arith) (first_line_text text line first u)).0;
  some_byte = size.0;
  short = size.1;
  unbroken = λ k d within. (
    λ tab. cut.first (k, within, get_or_default name k 9 d within ∙ tab),
    λ feed. first_line_unbroken text line first (subst (λ (l : List ℕ). Contains l 10) (sym cut.joined) (Contains-append_left name (9 ∷ rest) 10 (k, within, get_or_default name k 10 d within ∙ feed))),
  );
}

pub text_of_line_unbroken : (text line name rest : List ℕ) → IsFirstLine text line → IsCutAtFirst line 9 name rest → ¬ (Contains rest 10)
text_of_line_unbroken text line name rest first cut has =
    first_line_unbroken text line first (subst (λ (l : List ℕ). Contains l 10) (sym cut.joined) (Contains-append_right name (9 ∷ rest) 10 (Contains-tail 9 rest 10 has)))

-- ---- the lines that were read

-- the line of a document and what follows, cut at the line's LF
pub line_of-cut : (d : NamedText) (next : List ℕ) → line_of d ++ next ≡ (d.name ++ 9 ∷ d.text) ++ 10 ∷ next
line_of-cut d next = simp append_assoc

-- what follows a line is text
pub next_text : (left : List ℕ) (d : NamedText) (next : List ℕ) → left ≡ line_of d ++ next → IsUtf8 left → IsUtf8 next
next_text left d next is u = (cut_texts left 10 (d.name ++ 9 ∷ d.text) next (is ∙ line_of-cut d next) (omega arith) u).1

-- nothing is read yet
pub read_nothing : (text : List ℕ) → IsReadUpTo text [] 1 text
read_nothing text = record {
  lines = refl;
  names = λ k d within. absurd (omega arith);
  texts = λ k d within. absurd (omega arith);
  numbered = refl;
}

-- one more line is read
pub read_line_more : (text : List ℕ) (documents : List NamedText) (number : ℕ) (left : List ℕ) (d : NamedText) (next : List ℕ)
    → IsReadUpTo text documents number left → left ≡ line_of d ++ next → IsName d.name → ¬ (Contains d.text 10)
    → IsReadUpTo text (documents ++ d ∷ []) (number + 1) next
read_line_more text documents number left d next r is name unbroken = record {
  lines = r.lines ∙ ap (λ t. flat_map line_of documents ++ t) is
      ∙ sym (append_assoc (flat_map line_of documents) (line_of d) next)
      ∙ ap (λ t. t ++ next) (sym (flat_map-append line_of documents (d ∷ []) ∙ ap (λ t. flat_map line_of documents ++ t) (append-nil (line_of d))));
  names = All-push (λ e. IsName e.name) documents d r.names name;
  texts = All-push (λ e. ¬ (Contains e.text 10)) documents d r.texts unbroken;
  numbered = simp length-append (omega (arith, r.numbered));
}

-- all is read
pub read_all : (text : List ℕ) (documents : List NamedText) (number : ℕ) (left : List ℕ) → length text ≤ 2 ^ 28 → IsUtf8 text
    → IsReadUpTo text documents number left → length left ≡ 0 → IsCollectionText text documents
read_all text documents number [] small u r empty = record {
  size = small;
  characters = u;
  lines = r.lines ∙ append-nil (flat_map line_of documents);
  names = r.names;
  texts = r.texts;
}
read_all text documents number (x ∷ left) small u r empty = absurd (omega arith)

-- the fault of the first line that is left is the fault of the text
pub fault_from_line : (text : List ℕ) (documents : List NamedText) (number : ℕ) (left : List ℕ) (e : CollectionError) → length text ≤ 2 ^ 28 → IsUtf8 text
    → IsReadUpTo text documents number left → 0 < length left → IsLineFault left number e → IsCollectionFault text e
fault_from_line text documents number left TooLarge small u r some f = absurd f
fault_from_line text documents number left (NotUtf8 n) small u r some f = absurd f
fault_from_line text documents number left (NoTab n) small u r some f = record { size = small; characters = u; documents = documents; number = number; left = left; earlier = r; some_byte = some; fault_of_line = f }
fault_from_line text documents number left (Name n) small u r some f = record { size = small; characters = u; documents = documents; number = number; left = left; earlier = r; some_byte = some; fault_of_line = f }
fault_from_line text documents number left (NoLineEnd n) small u r some f = record { size = small; characters = u; documents = documents; number = number; left = left; earlier = r; some_byte = some; fault_of_line = f }
fault_from_line text documents number left Memory small u r some f = absurd f
