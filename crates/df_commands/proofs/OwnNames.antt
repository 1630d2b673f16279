-- The inputs of well-formed cells have names of their own.
use Rattle.std.proofs.Common.{◌≡◌, ◌≢◌, ℕ, zero, suc, ◌<◌, List, [], ◌∷◌, length, Option, Some, None, refl, sym, ◌∙◌, ap, inl, inr, arith}
use Rattle.std.specs.Prelude.{slice_get}
use Rattle.std.specs.List.{cons_option}
use Rattle.std.proofs.lemmas.Bool.{cases_lt}
use Rattle.std.proofs.lemmas.List.{get_or_past}
use Rattle.df_cells.specs.declared.cells.Cell.{Cell}
use Rattle.df_cells.specs.declared.cells.InputDecl.{InputDecl}
use Rattle.df_cells.specs.declared.kinds.Kind.{Kind}
use Rattle.df_cells.specs.declared.kinds.Kind.TheVariants as kind
use Rattle.df_cells.specs.Cells.{no_cell, cell_at, declared_by, inputs_of}
use Rattle.df_cells.specs.WellFormed.{WellFormed}
use Rattle.df_iotext.specs.Inputs.{HaveOwnNames}

-- no two cells declare inputs of one name
abbrev DeclareApart : List Cell → Type 0
DeclareApart cells = (b c : ℕ) (d e : InputDecl) → b < c → declared_by (cell_at cells b).kind ≡ Some d → declared_by (cell_at cells c).kind ≡ Some e → d.name ≢ e.name

-- a cell that declares an input is an IN of its name
declares : (it : Kind) (d : InputDecl) → declared_by it ≡ Some d → it ≡ kind.In d.name d.basic d.length
declares (kind.In name basic n) d is = let same : record { name = name; basic = basic; length = n } ≡ d = cc in ap (λ (e : InputDecl). kind.In e.name e.basic e.length) same
declares _ d is = cc

-- what is declared at a place is declared by some cell
abbrev Declarer : List Cell → InputDecl → Type 0
Declarer cells e = (c : ℕ) × (declared_by (cell_at cells c).kind ≡ Some e)

one_further : (x : Cell) (cells : List Cell) (e : InputDecl) → Declarer cells e → Declarer (x ∷ cells) e
one_further x cells e found = (suc found.0, found.1)

declarer_from : (x : Cell) (cells : List Cell) (o : Option InputDecl) (k : ℕ) (e : InputDecl) → ((j : ℕ) → slice_get (inputs_of cells) j ≡ Some e → Declarer cells e)
    → declared_by x.kind ≡ o → slice_get (cons_option o (inputs_of cells)) k ≡ Some e → Declarer (x ∷ cells) e
declarer_from x cells None k e behind is at = one_further x cells e (behind k at)
declarer_from x cells (Some d) zero e behind is at = (0, is ∙ at)
declarer_from x cells (Some d) (suc k) e behind is at = one_further x cells e (behind k at)

declarer : (cells : List Cell) (k : ℕ) (e : InputDecl) → slice_get (inputs_of cells) k ≡ Some e → Declarer cells e
declarer [] k e at = cc
declarer (x ∷ cells) k e at = declarer_from x cells (declared_by x.kind) k e (λ j there. declarer cells j e there) refl at

apart_behind : (x : Cell) (cells : List Cell) → DeclareApart (x ∷ cells) → DeclareApart cells
apart_behind x cells apart b c d e below is says = apart (suc b) (suc c) d e (omega arith) is says

one_place_from : (x : Cell) (cells : List Cell) (o : Option InputDecl) (j k : ℕ) (d e : InputDecl) → DeclareApart (x ∷ cells)
    → ((i l : ℕ) → slice_get (inputs_of cells) i ≡ Some d → slice_get (inputs_of cells) l ≡ Some e → i ≡ l) → declared_by x.kind ≡ o
    → slice_get (cons_option o (inputs_of cells)) j ≡ Some d → slice_get (cons_option o (inputs_of cells)) k ≡ Some e → d.name ≡ e.name → j ≡ k
one_place_from x cells None j k d e apart behind is at there same = behind j k at there
one_place_from x cells (Some o) zero zero d e apart behind is at there same = refl
one_place_from x cells (Some o) zero (suc k) d e apart behind is at there same =
    let found = declarer cells k e there in absurd (apart 0 (suc found.0) d e (omega arith) (is ∙ at) found.1 same)
one_place_from x cells (Some o) (suc j) zero d e apart behind is at there same =
    let found = declarer cells j d at in absurd (apart 0 (suc found.0) e d (omega arith) (is ∙ there) found.1 (sym same))
one_place_from x cells (Some o) (suc j) (suc k) d e apart behind is at there same = ap suc (behind j k at there)

one_place : (cells : List Cell) (j k : ℕ) (d e : InputDecl) → DeclareApart cells → slice_get (inputs_of cells) j ≡ Some d → slice_get (inputs_of cells) k ≡ Some e
    → d.name ≡ e.name → j ≡ k
one_place [] j k d e apart at there same = cc
one_place (x ∷ cells) j k d e apart at there same =
    one_place_from x cells (declared_by x.kind) j k d e apart (λ i l a b. one_place cells i l d e (apart_behind x cells apart) a b same) refl at there same

declared_within : (cells : List Cell) (c : ℕ) (e : InputDecl) → declared_by (cell_at cells c).kind ≡ Some e → c < length cells
declared_within cells c e is = elim (cases_lt c (length cells)) [
  | inl within ↦ within
  | inr past ↦ let none : None ≡ Some e = sym (ap (λ (x : Cell). declared_by x.kind) (get_or_past cells c no_cell past)) ∙ is in cc
]

declare_apart : (cells : List Cell) → WellFormed cells → DeclareApart cells
declare_apart cells w b c d e below is says =
    (w.source c (declared_within cells c e says)).own_name b d.length e.length e.name d.name e.basic d.basic below
    (declares (cell_at cells b).kind d is) (declares (cell_at cells c).kind e says)

pub cells_names : (cells : List Cell) → WellFormed cells → HaveOwnNames (inputs_of cells)
cells_names cells w = record { differ = λ j k d e at there same. one_place cells j k d e (declare_apart cells w) at there same }
