-- Where the names of the inputs of cells are names, each cell can be written, and the list of them.
use Rattle.std.proofs.Common.{◌≡◌, ◌<◌, ◌+◌, ℕ, zero, suc, Bool, true, List, [], ◌∷◌, Option, Some, None, ◌++◌, codes, ap, ◌∙◌, length, sym, subst, refl, arith}
use Rattle.std.specs.Prelude.{All, IsTrue, IfSome, take}
use Rattle.std.specs.List.{cons_option, list_all}
use Rattle.std.proofs.lemmas.Bool.{and_from}
use Rattle.std.proofs.lemmas.List.{take_all}
use Rattle.std.proofs.lemmas.List.Elements.{All-more}
use Rattle.df_cells.specs.declared.cells.Cell.{Cell}
use Rattle.df_cells.specs.declared.cells.InputDecl.{InputDecl}
use Rattle.df_cells.specs.declared.cells.Feed.{Feed}
use Rattle.df_cells.specs.declared.cells.Feed.TheVariants.{Arc, Constant, Loaded}
use Rattle.df_cells.specs.declared.kinds.Kind.{Kind}
use Rattle.df_cells.specs.declared.kinds.Kind.TheVariants as kind
use Rattle.df_cells.specs.declared.kinds.Run.{Run}
use Rattle.df_values.specs.declared.values.Value.{Value}
use Rattle.df_values.specs.declared.values.Value.TheVariants.{Int, Truth, Error}
use Rattle.df_cells.specs.Cells.{no_cell, cell_at, declared_by, inputs_of, AreCells}
use Rattle.df_celltext.specs.declared.version.Version.TheVariants.{Two}
use Rattle.df_celltext.specs.Versions.{has_value, has_feed, has_kind, has_cell}
use Rattle.std.specs.Fmt.{decimal}
use Rattle.df_celltext.specs.CellText.{cell_lines, cell_text}
use Rattle.df_celltext.specs.Writable.{is_name, IsNamed, HaveNames, IsWritableCell, IsTextOf}

-- ---- names

abbrev DeclaresName : InputDecl → Type 0
DeclaresName decl = IsTrue (is_name decl.name)

named : (k : Kind) → IfSome (declared_by k) DeclaresName → IsNamed k
named (kind.In name basic n) h = h
named _ h = tt

parted : (o : Option InputDecl) (decls : List InputDecl) → All DeclaresName (cons_option o decls) → IfSome o DeclaresName × All DeclaresName decls
parted None decls h = (tt, h)
parted (Some decl) decls h = (h 0 decl (omega arith), λ k d within. h (suc k) d (omega arith))

-- the names of the declared inputs are those of the cells
names_each : (cells : List Cell) (i : ℕ) → i < length cells → HaveNames cells → IsNamed (cell_at cells i).kind
names_each [] i within h = absurd (omega arith)
names_each (x ∷ cells) zero within h = named x.kind (parted (declared_by x.kind) (inputs_of cells) h).0
names_each (x ∷ cells) (suc i) within h = names_each cells i (omega arith) (parted (declared_by x.kind) (inputs_of cells) h).1

-- one more cell that can be written
pub one_more_writable : (cells : List Cell) (i : ℕ) (cell : Cell) → i < length cells → cell ≡ cell_at cells i
    → (HaveNames cells → All IsWritableCell (take i cells)) → (IsNamed cell.kind → IsWritableCell cell) → HaveNames cells → All IsWritableCell (take (i + 1) cells)
one_more_writable cells i cell within same before this names =
    All-more IsWritableCell cells i no_cell within (before names)
    (subst IsWritableCell same (this (subst (λ (x : Cell). IsNamed x.kind) (sym same) (names_each cells i within names))))

-- ---- version 2 has all cells

has_each_value : (v : Value) → has_value Two v ≡ true
has_each_value (Int z) = refl
has_each_value (Truth b) = refl
has_each_value (Error e) = refl

has_each_feed : (f : Feed) → has_feed Two f ≡ true
has_each_feed (Arc u) = refl
has_each_feed (Constant v) = has_each_value v
has_each_feed (Loaded u v) = has_each_value v

all_pass : {A : Type 0} (p : A → Bool) → ((a : A) → p a ≡ true) → (xs : List A) → list_all p xs ≡ true
all_pass p each [] = refl
all_pass p each (x ∷ xs) = and_from (p x) (list_all p xs) (each x) (all_pass p each xs)

has_each_kind : (k : Kind) → has_kind Two k ≡ true
has_each_kind (kind.Ctl runs) = all_pass (λ (r : Run). has_value Two r.value) (λ r. has_each_value r.value) runs
has_each_kind _ = refl

has_each_cell : (cell : Cell) → has_cell Two cell ≡ true
unfolding has_cell
has_each_cell cell = and_from (has_kind Two cell.kind) (list_all (has_feed Two) cell.ports) (has_each_kind cell.kind) (all_pass (has_feed Two) has_each_feed cell.ports)

-- the head, all lines and the end are the text
pub text_whole : (cells : List Cell) (n : ℕ) (old new : List ℕ) → n ≡ length cells
    → old ≡ codes "dataflow 2 " ++ decimal (length cells) ++ codes "\n" ++ cell_lines 0 (take n cells) → new ≡ old ++ codes "end\n" → new ≡ cell_text cells
text_whole cells n old new all before step =
    step ∙ ap (λ t. t ++ codes "end\n")
    (before ∙ ap (λ l. codes "dataflow 2 " ++ decimal (length cells) ++ codes "\n" ++ cell_lines 0 l) (take_all n cells (omega arith)))

-- the text of cells that can all be written can be read
pub text_of : (cells : List Cell) (n : ℕ) (text : List ℕ) → n ≡ length cells → AreCells cells → text ≡ cell_text cells → All IsWritableCell (take n cells) → IsTextOf text cells
text_of cells n text all shaped is each =
    let whole : take n cells ≡ cells = take_all n cells (omega arith) in
    (record { shaped = shaped; each = subst (λ (l : List Cell). All IsWritableCell l) whole each; has = λ k d within. has_each_cell _ }, is)
