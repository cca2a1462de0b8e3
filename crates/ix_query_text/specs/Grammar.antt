-- The grammar of queries (Boolean operators as in IIR 1.3, phrases and NEAR as in IIR 2.4.2):
--
--     or    := and (OR and)*
--     and   := unary (AND unary)*
--     unary := NOT unary | run NEAR/n run | run | "text" | ( or )
--
-- Each of its parts is a relation between the number of brackets and NOTs that are open around the part, the lexemes from
-- the part's first one on, the part's tree, and the lexemes that are left behind the part.
use Rattle.std.specs.Prelude.{◌≡◌, ℕ, suc, ◌<◌, List, [], ◌∷◌, Ok}
use Rattle.ix_query_text.specs.declared.tree.Tree.{Tree}
use Rattle.ix_query_text.specs.declared.tree.Tree.TheVariants as tree
use Rattle.ix_query_text.specs.Cutting.{AreLexemes}
use Rattle.ix_query_text.specs.Lexemes.{Sign, Lexeme, At}
use Rattle.ix_query_text.specs.Judgement.{plain, quoted, beside}

-- One part is itself, and several are joined.
abbrev pub joined_by : (List Tree → Tree) → List Tree → Tree
joined_by node (part ∷ []) = part
joined_by node parts = node parts

mutual
  -- an operand, with the NOTs before it
  pub data IsUnary (stop : List (List ℕ)) : ℕ → List Lexeme → Tree → List Lexeme → Type 0 where
    negation : {o k : ℕ} {from rest : List Lexeme} {part : Tree} →
        k < 64 → IsUnary stop (suc k) from part rest →
        IsUnary stop k (At o Sign.Not ∷ from) (tree.Not part) rest
    bracket : {o c k : ℕ} {from rest : List Lexeme} {part : Tree} →
        k < 64 → IsOr stop (suc k) from part (At c Sign.Close ∷ rest) →
        IsUnary stop k (At o Sign.Open ∷ from) part rest
    near : {a b c k distance : ℕ} {rest : List Lexeme} {v w first second : List ℕ} →
        beside stop v ≡ Ok first → beside stop w ≡ Ok second →
        IsUnary stop k (At a (Sign.Run v) ∷ At b (Sign.Near distance) ∷ At c (Sign.Run w) ∷ rest) (tree.Near first second distance) rest
    run : {o k : ℕ} {rest : List Lexeme} {w : List ℕ} {part : Tree} →
        plain stop w ≡ Ok part →
        IsUnary stop k (At o (Sign.Run w) ∷ rest) part rest
    text : {o k : ℕ} {rest : List Lexeme} {w : List ℕ} {part : Tree} →
        quoted stop w ≡ Ok part →
        IsUnary stop k (At o (Sign.Quoted w) ∷ rest) part rest

  -- any number of operands, each behind an AND
  pub data AreAnds (stop : List (List ℕ)) : ℕ → List Lexeme → List Tree → List Lexeme → Type 0 where
    no_and : {k : ℕ} {rest : List Lexeme} → AreAnds stop k rest [] rest
    and : {o k : ℕ} {from middle rest : List Lexeme} {part : Tree} {parts : List Tree} →
        IsUnary stop k from part middle → AreAnds stop k middle parts rest →
        AreAnds stop k (At o Sign.And ∷ from) (part ∷ parts) rest

  -- operands with ANDs between them
  pub data IsAnd (stop : List (List ℕ)) : ℕ → List Lexeme → Tree → List Lexeme → Type 0 where
    ands : {k : ℕ} {from middle rest : List Lexeme} {part whole : Tree} {parts : List Tree} →
        IsUnary stop k from part middle → AreAnds stop k middle parts rest → whole ≡ joined_by tree.And (part ∷ parts) →
        IsAnd stop k from whole rest

  -- any number of such parts, each behind an OR
  pub data AreOrs (stop : List (List ℕ)) : ℕ → List Lexeme → List Tree → List Lexeme → Type 0 where
    no_or : {k : ℕ} {rest : List Lexeme} → AreOrs stop k rest [] rest
    or : {o k : ℕ} {from middle rest : List Lexeme} {part : Tree} {parts : List Tree} →
        IsAnd stop k from part middle → AreOrs stop k middle parts rest →
        AreOrs stop k (At o Sign.Or ∷ from) (part ∷ parts) rest

  -- such parts with ORs between them
  pub data IsOr (stop : List (List ℕ)) : ℕ → List Lexeme → Tree → List Lexeme → Type 0 where
    ors : {k : ℕ} {from middle rest : List Lexeme} {part whole : Tree} {parts : List Tree} →
        IsAnd stop k from part middle → AreOrs stop k middle parts rest → whole ≡ joined_by tree.Or (part ∷ parts) →
        IsOr stop k from whole rest

-- Under the stop list the text reads as this query: it is cut into lexemes, and all of them are the query by the grammar,
-- with nothing open around it.
pub record Reads (stop : List (List ℕ)) (text : List ℕ) (query : Tree) : Type 0 where
  pub lexemes : List Lexeme
  pub cut : AreLexemes 0 text lexemes
  pub derived : IsOr stop 0 lexemes query []
