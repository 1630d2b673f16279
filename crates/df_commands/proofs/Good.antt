-- Cells that realize what the flat program of a source means are good for the source, and their drained runs tell it.
use Rattle.std.proofs.Common.{◌≡◌, ◌<◌, ◌∙◌, ◌==◌, ℕ, zero, suc, true, List, [], ◌∷◌, length, get_or, map, ap, sym, subst, arith}
use Rattle.std.proofs.lemmas.List.{ext_get_or}
use Rattle.std.specs.List.{AllByRecursion}
use Rattle.std.specs.Prelude.{All, IsTrue}
use Rattle.df_values.specs.Inputs.{AreValid, declared}
use Rattle.df_values.specs.declared.inputs.Input.{Input}
use Rattle.df_celltext.specs.Writable.{is_name, HaveNames}
use Rattle.df_input_names.specs.Laws.{InputsAreNamed}
use Rattle.df_commands.specs.ProgramTexts.{IsTextOfTree}
use Rattle.df_values.specs.declared.values.Value.{Value}
use Rattle.df_cells.specs.declared.cells.Cell.{Cell}
use Rattle.df_cells.specs.declared.cells.InputDecl.{InputDecl}
use Rattle.df_cells.specs.Cells.{declaration_of, declarations, inputs_of}
use Rattle.df_cells.specs.Schedules.{choices_of}
use Rattle.df_core.specs.Meaning.{flat_mean}
use Rattle.df_core.specs.declared.flat.Flat.{Flat}
use Rattle.df_build_elem.specs.Program.{declared_inputs, program_graph}
use Rattle.df_buffers_laws.specs.HasSkeleton.{HasSkeleton}
use Rattle.df_compile.specs.Compiled.{IsCompiledFrom}
use Rattle.df_flattened.specs.Law.{LoweringKeepsTheMeaning}
use Rattle.df_labels.specs.Histories.{IsPrefix}
use Rattle.df_machine.specs.Events.{possible}
use Rattle.df_machine.specs.Reports.{report}
use Rattle.df_machine.specs.Runs.{after}
use Rattle.df_labels.specs.ForAll.{for_all}
use Rattle.df_labels.specs.Members.{Labels}
use Rattle.df_lockstep.specs.Phases.{after_phases}
use Rattle.df_lockstep.specs.Rates.{phases_at_most, events_in_time}
use Rattle.df_lockstep.specs.Laws.{Covers, KeepsFullRate, DrainsInTime, WholeInTime}
use Rattle.df_ends.specs.Laws.{RealizingForAllIsGood, GoodForAllIsGood}
use Rattle.df_ends.proofs.Realized.{values_alone}
use Rattle.df_syntax.specs.SourceMeaning.{source_inputs, source_mean}
use Rattle.df_syntax.specs.declared.program.Program.{Program as Tree}
use Rattle.df_commands.specs.Compiled.{IsCompiled}
use Rattle.df_commands.specs.InTime.{HasRate}
use Rattle.df_commands.specs.Inputs.{decls_by}
use Rattle.df_commands.specs.Laws.{CellsOfSourcesAreGood, CellsOfSourcesAreInTime, DrainedRunsTellTheMeaning}
use Rattle.df_commands.specs.Ready.{IsFlatOf}
use Rattle.df_commands.proofs.SourcesMeant.{declared_by_decls, flat_inputs, meant}

-- the inputs of the cells are those of the source
pub inputs_of_source : (tree : Tree) (flat : Flat) (cells : List Cell) → IsFlatOf tree flat → inputs_of cells ≡ declared_inputs flat → inputs_of cells ≡ decls_by (source_inputs tree)
inputs_of_source tree flat cells is inputs = inputs ∙ ap decls_by (flat_inputs tree flat is)

-- so what is valid for the source is valid for the cells
valid_inputs : (tree : Tree) (cells : List Cell) (inputs : List (List Value)) → inputs_of cells ≡ decls_by (source_inputs tree) → AreValid (declared (source_inputs tree)) inputs
    → AreValid (declarations cells) inputs
valid_inputs tree cells inputs same =
    subst (λ ds. AreValid ds inputs) (sym (ap (λ (ds : List InputDecl). map declaration_of ds) same ∙ declared_by_decls (source_inputs tree)))

pub good_for_source : RealizingForAllIsGood → GoodForAllIsGood → LoweringKeepsTheMeaning → CellsOfSourcesAreGood
good_for_source are_good for_every keeps tree flat cells is inputs formed balanced realizes =
    let good = for_every cells (flat_mean flat) (are_good cells (for_all (flat_mean flat)) formed balanced realizes) in
    let same = inputs_of_source tree flat cells is inputs in
    record {
      no_clash = λ lists choices choice valid. good.faithful.no_clash lists choices choice (valid_inputs tree cells lists same valid);
      results = λ lists choices valid.
          good.faithful.results lists choices (valid_inputs tree cells lists same valid) ∙ ap length (meant keeps tree flat lists is valid);
      prefixes = λ lists choices k valid.
          subst (λ (o : List (List Value)). IsPrefix (get_or (after cells lists choices).results k []) (get_or o k [])) (meant keeps tree flat lists is valid)
          (good.faithful.prefixes lists choices k (valid_inputs tree cells lists same valid));
      whole = λ lists choices k valid ended.
          good.whole lists choices k (valid_inputs tree cells lists same valid) ended
          ∙ ap (λ (o : List (List Value)). get_or o k []) (meant keeps tree flat lists is valid);
    }

-- labels that cover the cells, and their rate
rated_by : KeepsFullRate → DrainsInTime → (cells : List Cell) (inputs : List (List Value)) (n : ℕ) (labels : Labels)
    → Covers cells inputs n labels → HasRate cells inputs n
rated_by full drains cells inputs n labels covers = record {
  labels = labels;
  meet = covers.meet;
  rate = full cells inputs n labels covers;
  all = (drains cells inputs n labels covers).1;
}

pub in_time_for_source : KeepsFullRate → DrainsInTime → WholeInTime → LoweringKeepsTheMeaning → CellsOfSourcesAreInTime
in_time_for_source full drains whole keeps tree flat cells is inputs formed balanced realizes loopless lists valid =
    let own = valid_inputs tree cells lists (inputs_of_source tree flat cells is inputs) valid in
    let told = λ (n : ℕ). realizes.tells lists n own in
    let covers : (n : ℕ) → events_in_time cells lists < n → Covers cells lists n (told n).labels = λ n enough. record {
      well_formed = formed;
      fits = own;
      balanced = balanced;
      free = loopless;
      meet = (told n).meet;
      placed = (told n).placed;
      enough = enough;
    } in
    let n = suc (events_in_time cells lists) in
    let least : events_in_time cells lists < n = omega arith in
    record {
      rated = λ m enough. rated_by full drains cells lists m (told m).labels (covers m enough);
      drained = (drains cells lists n (told n).labels (covers n least)).0;
      whole = λ k.
          values_alone (get_or (after_phases cells lists (phases_at_most cells)).results k []) (flat_mean flat lists) k
          (whole cells (for_all (flat_mean flat)) formed balanced loopless realizes lists n k own least)
          ∙ ap (λ (o : List (List Value)). get_or o k []) (meant keeps tree flat lists is valid);
    }

-- what the compiler of flat programs promises, said of the source
-- the names of inputs, as what cells declare
all_named : (inputs : List Input) → AllByRecursion (λ (i : Input). IsTrue (is_name i.name)) inputs → All (λ (d : InputDecl). IsTrue (is_name d.name)) (decls_by inputs)
all_named [] all k d within = absurd (omega (arith, within))
all_named (i ∷ inputs) all zero d within = all.0
all_named (i ∷ inputs) all (suc k) d within = all_named inputs all.1 k d (omega (arith, within))

names_of_source : InputsAreNamed → (text : List ℕ) (tree : Tree) (cells : List Cell) → IsTextOfTree text tree → inputs_of cells ≡ decls_by (source_inputs tree) → HaveNames cells
names_of_source named text tree cells is same =
    subst (λ (ds : List InputDecl). All (λ (d : InputDecl). IsTrue (is_name d.name)) ds) (sym same) (all_named (source_inputs tree) (named text is.list tree is.tokens is.source))

pub compiled_source : CellsOfSourcesAreGood → CellsOfSourcesAreInTime → InputsAreNamed → (text : List ℕ) (tree : Tree) (flat : Flat) (cells : List Cell) (flow : List ℕ) → IsTextOfTree text tree
    → IsFlatOf tree flat → IsCompiledFrom flat cells flow
    → IsCompiled tree cells flow
compiled_source are_good in_time named text tree flat cells flow reads is from = record {
  well_formed = from.well_formed;
  inputs = inputs_of_source tree flat cells is from.inputs;
  named = names_of_source named text tree cells reads (inputs_of_source tree flat cells is from.inputs);
  skeleton = subst (λ f. HasSkeleton cells (program_graph f)) is.is from.skeleton;
  balanced = from.balanced;
  least = from.least;
  lowest = from.lowest;
  certificate = from.certificate;
  good = are_good tree flat cells is from.inputs from.well_formed from.balanced from.realizes;
  in_time = in_time tree flat cells is from.inputs from.well_formed from.balanced from.realizes;
}

-- ---- drained runs

no_event : (n : ℕ) → (n == 0) ≡ true → n ≡ 0
no_event n none = grind arith

pub drained_tell : DrainedRunsTellTheMeaning
unfolding report
drained_tell tree cells inputs schedule good valid drained =
    let ended : possible cells (after cells inputs (choices_of schedule)) ≡ 0 = no_event (possible cells (after cells inputs (choices_of schedule))) drained in
    ext_get_or [] (after cells inputs (choices_of schedule)).results (source_mean tree inputs) (good.results inputs (choices_of schedule) valid)
    (λ k within. good.whole inputs (choices_of schedule) k valid ended)
