-- An index text, piece after piece.
use Rattle.std.proofs.Common.{◌≡◌, ℕ, ◌+◌, ◌-◌, List, [], ◌++◌, length, ap, ap₂, ◌∙◌, append_assoc, arith, length-append}
use Rattle.ix_index_text.specs.IndexText.{end_mark, magic}
use Rattle.ix_index_text.specs.Sections.{Plain}
use Rattle.ix_index_text.proofs.TextLaws.{length-magic}
use Rattle.ix_file.specs.Frames.{FileSectionTexts, counts, eight, framed, joined_sections, lengths}
use Rattle.ix_extract.specs.Trailers.{sizes_bytes}
use Rattle.ix_extract.specs.declared.trailer.Sizes.{Sizes}
use Rattle.ix_extract.proofs.TrailerLemmas.{AreSizesOf}

-- a trailer behind what there was
pub trailer_behind : (o0 o1 o2 o3 o4 o5 o6 o7 o8 s1 s2 s3 s4 s5 r t x : List ℕ) → o1 ≡ o0 ++ s1 → o2 ≡ o1 ++ s2 → o3 ≡ o2 ++ s3 → o4 ≡ o3 ++ s4 → o5 ≡ o4 ++ s5 → o6 ≡ o5 ++ r → o7 ≡ o6 ++ t → o8 ≡ o7 ++ x
    → o8 ≡ o0 ++ (((s1 ++ (s2 ++ (s3 ++ (s4 ++ s5)))) ++ (r ++ t)) ++ x)
trailer_behind o0 o1 o2 o3 o4 o5 o6 o7 o8 s1 s2 s3 s4 s5 r t x p1 p2 p3 p4 p5 p6 p7 p8 =
    let whole : o8 ≡ o0 ++ s1 ++ s2 ++ s3 ++ s4 ++ s5 ++ r ++ t ++ x = cc in whole ∙ regroup
  where
    regroup : o0 ++ s1 ++ s2 ++ s3 ++ s4 ++ s5 ++ r ++ t ++ x ≡ o0 ++ (((s1 ++ (s2 ++ (s3 ++ (s4 ++ s5)))) ++ (r ++ t)) ++ x)
    regroup = simp append_assoc

sizes_same : (texts : FileSectionTexts) (sizes : Sizes) → AreSizesOf texts sizes → sizes_bytes sizes ≡ lengths texts
sizes_same texts sizes are =
    let join : List ℕ → List ℕ → List ℕ = λ xs ys. xs ++ ys in
    ap₂ join (ap eight are.postings) (ap₂ join (ap eight are.stop) (ap₂ join (ap eight are.documents) (ap₂ join (ap eight are.dictionary) (ap eight are.grams))))

-- sections between the mark and a trailer of their sizes
pub framed_behind : (texts : FileSectionTexts) (sizes : Sizes) (documents terms : ℕ) (o6 o7 : List ℕ) → AreSizesOf texts sizes → o6 ≡ magic Plain ++ joined_sections texts → o7 ≡ o6 ++ ((sizes_bytes sizes ++ counts documents terms) ++ end_mark Plain)
    → o7 ≡ framed Plain texts documents terms
unfolding framed
framed_behind texts sizes documents terms o6 o7 are body trailer =
    trailer ∙ ap (λ (xs : List ℕ). xs ++ ((sizes_bytes sizes ++ counts documents terms) ++ end_mark Plain)) body
    ∙ ap (λ (xs : List ℕ). (magic Plain ++ joined_sections texts) ++ ((xs ++ counts documents terms) ++ end_mark Plain)) (sizes_same texts sizes are)
    ∙ append_assoc (magic Plain) (joined_sections texts) ((lengths texts ++ counts documents terms) ++ end_mark Plain)

-- the sections were appended one by one
pub record AreAppended (texts : FileSectionTexts) (o0 o1 o2 o3 o4 o5 o6 : List ℕ) : Type 0 where
  pub none : o0 ≡ []
  pub mark : o1 ≡ o0 ++ magic Plain
  pub postings : o2 ≡ o1 ++ texts.postings
  pub stop : o3 ≡ o2 ++ texts.stop
  pub documents : o4 ≡ o3 ++ texts.documents
  pub dictionary : o5 ≡ o4 ++ texts.dictionary
  pub grams : o6 ≡ o5 ++ texts.grams

pub body_appended : (texts : FileSectionTexts) (o0 o1 o2 o3 o4 o5 o6 : List ℕ) → AreAppended texts o0 o1 o2 o3 o4 o5 o6 → o6 ≡ magic Plain ++ joined_sections texts
body_appended texts o0 o1 o2 o3 o4 o5 o6 are =
    grouped o0 o1 o2 o3 o4 o5 o6 (magic Plain) texts.postings texts.stop texts.documents texts.dictionary texts.grams are.none are.mark are.postings are.stop are.documents are.dictionary are.grams
  where
    regroup : (m a b c d g : List ℕ) → [] ++ m ++ a ++ b ++ c ++ d ++ g ≡ m ++ (a ++ (b ++ (c ++ (d ++ g))))
    regroup m a b c d g = simp append_assoc

    grouped : (o0 o1 o2 o3 o4 o5 o6 m a b c d g : List ℕ) → o0 ≡ [] → o1 ≡ o0 ++ m → o2 ≡ o1 ++ a → o3 ≡ o2 ++ b → o4 ≡ o3 ++ c → o5 ≡ o4 ++ d → o6 ≡ o5 ++ g → o6 ≡ m ++ (a ++ (b ++ (c ++ (d ++ g))))
    grouped o0 o1 o2 o3 o4 o5 o6 m a b c d g p0 p1 p2 p3 p4 p5 p6 = let whole : o6 ≡ [] ++ m ++ a ++ b ++ c ++ d ++ g = cc in whole ∙ regroup m a b c d g

-- their sizes
pub sizes_appended : (texts : FileSectionTexts) (sizes : Sizes) (o0 o1 o2 o3 o4 o5 o6 : List ℕ) → AreAppended texts o0 o1 o2 o3 o4 o5 o6 → sizes.postings ≡ length o2 - 8 → length o3 ≡ length o2 + sizes.stop → length o4 ≡ length o3 + sizes.documents
    → sizes.dictionary ≡ length o5 - length o4 → sizes.grams ≡ length o6 - length o5 → AreSizesOf texts sizes
sizes_appended texts sizes o0 o1 o2 o3 o4 o5 o6 are a b c d g =
    let first : length o1 ≡ 8 = omega (arith, ap length are.mark, length-append o0 (magic Plain), length-magic Plain, ap length are.none) in
    record {
      postings = omega (arith, a, first, ap length are.postings, length-append o1 texts.postings);
      stop = omega (arith, b, ap length are.stop, length-append o2 texts.stop);
      documents = omega (arith, c, ap length are.documents, length-append o3 texts.documents);
      dictionary = omega (arith, d, ap length are.dictionary, length-append o4 texts.dictionary);
      grams = omega (arith, g, ap length are.grams, length-append o5 texts.grams);
    }
