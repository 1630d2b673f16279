-- Which event a line is of.
use Rattle.std.proofs.Common.{◌≡◌, ◌≢◌, ℕ, ◌-◌, ◌<◌, ◌^◌, List, [], ◌∷◌, ◌++◌, length, take, drop, get_or, codes, false, Option, Some, refl, sym, ◌∙◌, ap, subst, arith, append-nil}
use Rattle.std.specs.Fmt.{decimal}
use Rattle.std.specs.Option.{option_map}
use Rattle.std.proofs.lemmas.List.{take_all, length-drop}
use Rattle.df_values.specs.Decimals.{LeadsWith, begins_with_digit}
use Rattle.df_values.specs.Spelling.{spelled}
use Rattle.df_values.specs.declared.values.Value.{Value}
use Rattle.df_cells.specs.declared.cells.CellId.{CellId}
use Rattle.df_cells.specs.declared.cells.Dest.{Dest}
use Rattle.df_machine.specs.declared.packets.Event.{Event}
use Rattle.df_machine.specs.declared.packets.Event.TheVariants.{Fire, Perform, Arrive, Ack}
use Rattle.df_machine.specs.declared.packets.Action.TheVariants as action
use Rattle.df_machine.specs.Events.{action_of}
use Rattle.df_machine.specs.Laws.{IsOfCells}
use Rattle.df_trace.specs.Lines.{port_text, line_of}

-- ---- the letter of a line tells what happens

first_of : (line xs ys : List ℕ) (a b : ℕ) → line ≡ a ∷ xs → line ≡ b ∷ ys → a ≡ b
first_of line xs ys a b is named = sym (ap (λ l. get_or l 0 a) is) ∙ ap (λ l. get_or l 0 a) named

rest_of : (line xs ys : List ℕ) (a b : ℕ) → line ≡ a ∷ 32 ∷ xs → line ≡ b ∷ 32 ∷ ys → xs ≡ ys
rest_of line xs ys a b is named = sym (ap (drop 2) is) ∙ ap (drop 2) named

pub of_fire : (event : Event) (line rest : List ℕ) → line ≡ 70 ∷ 32 ∷ rest → line ≡ line_of event → (c : CellId) × (event ≡ Fire c) × (rest ≡ decimal c.0)
of_fire (Fire c) line rest is named = (c, refl, rest_of line rest (decimal c.0) 70 70 is named)
of_fire (Perform c) line rest is named = absurd (let e = first_of line (32 ∷ rest) (32 ∷ (decimal c.0)) 70 68 is named in omega (arith, e))
of_fire (Arrive d v) line rest is named = absurd (let e = first_of line (32 ∷ rest) (32 ∷ (port_text d ++ (codes " " ++ spelled v))) 70 82 is named in omega (arith, e))
of_fire (Ack d) line rest is named = absurd (let e = first_of line (32 ∷ rest) (32 ∷ (port_text d)) 70 65 is named in omega (arith, e))

pub of_perform : (event : Event) (line rest : List ℕ) → line ≡ 68 ∷ 32 ∷ rest → line ≡ line_of event → (c : CellId) × (event ≡ Perform c) × (rest ≡ decimal c.0)
of_perform (Fire c) line rest is named = absurd (let e = first_of line (32 ∷ rest) (32 ∷ (decimal c.0)) 68 70 is named in omega (arith, e))
of_perform (Perform c) line rest is named = (c, refl, rest_of line rest (decimal c.0) 68 68 is named)
of_perform (Arrive d v) line rest is named = absurd (let e = first_of line (32 ∷ rest) (32 ∷ (port_text d ++ (codes " " ++ spelled v))) 68 82 is named in omega (arith, e))
of_perform (Ack d) line rest is named = absurd (let e = first_of line (32 ∷ rest) (32 ∷ (port_text d)) 68 65 is named in omega (arith, e))

pub of_arrive : (event : Event) (line rest : List ℕ) → line ≡ 82 ∷ 32 ∷ rest → line ≡ line_of event → (d : Dest) × (v : Value) × (event ≡ Arrive d v) × (rest ≡ port_text d ++ (codes " " ++ spelled v))
of_arrive (Fire c) line rest is named = absurd (let e = first_of line (32 ∷ rest) (32 ∷ (decimal c.0)) 82 70 is named in omega (arith, e))
of_arrive (Perform c) line rest is named = absurd (let e = first_of line (32 ∷ rest) (32 ∷ (decimal c.0)) 82 68 is named in omega (arith, e))
of_arrive (Arrive d v) line rest is named = (d, v, refl, rest_of line rest (port_text d ++ (codes " " ++ spelled v)) 82 82 is named)
of_arrive (Ack d) line rest is named = absurd (let e = first_of line (32 ∷ rest) (32 ∷ (port_text d)) 82 65 is named in omega (arith, e))

pub of_ack : (event : Event) (line rest : List ℕ) → line ≡ 65 ∷ 32 ∷ rest → line ≡ line_of event → (d : Dest) × (event ≡ Ack d) × (rest ≡ port_text d)
of_ack (Fire c) line rest is named = absurd (let e = first_of line (32 ∷ rest) (32 ∷ (decimal c.0)) 65 70 is named in omega (arith, e))
of_ack (Perform c) line rest is named = absurd (let e = first_of line (32 ∷ rest) (32 ∷ (decimal c.0)) 65 68 is named in omega (arith, e))
of_ack (Arrive d v) line rest is named = absurd (let e = first_of line (32 ∷ rest) (32 ∷ (port_text d ++ (codes " " ++ spelled v))) 65 82 is named in omega (arith, e))
of_ack (Ack d) line rest is named = (d, refl, rest_of line rest (port_text d) 65 65 is named)

pub of_none : (event : Event) (line : List ℕ) → ((rest : List ℕ) → line ≢ 70 ∷ 32 ∷ rest) → ((rest : List ℕ) → line ≢ 68 ∷ 32 ∷ rest)
    → ((rest : List ℕ) → line ≢ 82 ∷ 32 ∷ rest) → ((rest : List ℕ) → line ≢ 65 ∷ 32 ∷ rest) → line ≡ line_of event → ⊥
of_none (Fire c) line f p r a named = f _ named
of_none (Perform c) line f p r a named = p _ named
of_none (Arrive d v) line f p r a named = r _ named
of_none (Ack d) line f p r a named = a _ named

-- ---- numbers at the front

pub all_left : (text : List ℕ) (n : ℕ) → take (length text - n) (drop n text) ≡ drop n text
all_left text n = take_all (length text - n) (drop n text) (let l = length-drop n text in omega arith)

abbrev pub LeadsOnce : Type 0
LeadsOnce = (text rest others : List ℕ) (m n : ℕ) → m < 2 ^ 64 → n < 2 ^ 64 → LeadsWith text m rest → LeadsWith text n others → (m ≡ n) × (rest ≡ others)

pub same_number : LeadsOnce → (text rest : List ℕ) (number n len cell : ℕ) → n < 65536 → LeadsWith text n rest → number < 2 ^ 64 → LeadsWith text number (drop len text) → cell ≡ number
    → (cell ≡ n) × (take (length text - len) (drop len text) ≡ rest)
same_number law text rest number n len cell small leads fits found is =
    let one = law text (drop len text) rest number n fits (omega arith) found leads in (is ∙ one.0, all_left text len ∙ one.1)

pub no_larger : LeadsOnce → (text rest : List ℕ) (number n len most : ℕ) → n < 65536 → n < most → LeadsWith text n rest → number < 2 ^ 64 → LeadsWith text number (drop len text) → (number < most → ⊥) → ⊥
no_larger law text rest number n len most small less leads fits found past =
    let one = law text (drop len text) rest number n fits (omega arith) found leads in past (let e = one.0 in omega (arith, e, less))

-- ---- what is read of a line behind its letter

pub whole : (rest : List ℕ) (n : ℕ) → rest ≡ decimal n → LeadsWith rest n []
whole rest n is = record { parts = is ∙ sym (append-nil (decimal n)); ends = refl }

-- whatever cell the text leads with, it is this one; so of ports
abbrev pub LeadsToCell : List ℕ → CellId → Type 0
LeadsToCell rest cell = (n : ℕ) (behind : List ℕ) → n < 65536 → LeadsWith rest n behind → cell.0 ≡ n

abbrev pub LeadsToNone : List ℕ → Type 0
LeadsToNone rest = (n : ℕ) (behind : List ℕ) → n < 65536 → LeadsWith rest n behind → ⊥

abbrev pub LeadsToPort : List ℕ → Option Dest → Type 0
LeadsToPort rest port = (d : Dest) (behind : List ℕ) → d.cell.0 < 65536 → d.port.0 < 3 → begins_with_digit behind ≡ false → rest ≡ port_text d ++ behind → port ≡ Some d

pub that_cell : (c d : CellId) → c.0 ≡ d.0 → c ≡ d
that_cell c d is = ap (λ n. record { 0 = n }) is

pub fires : (line rest : List ℕ) (cell : CellId) (event : Event) → line ≡ 70 ∷ 32 ∷ rest → LeadsToCell rest cell → IsOfCells 65536 event → line ≡ line_of event → Some (action.Fire cell) ≡ Some (action_of event)
fires line rest cell event is leads within named =
    let f = of_fire event line rest is named in
    ap (λ x. Some (action.Fire x)) (that_cell cell f.0 (leads f.0.0 [] (subst (IsOfCells 65536) f.1 within) (whole rest f.0.0 f.2))) ∙ ap (λ e. Some (action_of e)) (sym f.1)

pub fires_none : (line rest : List ℕ) (event : Event) → line ≡ 70 ∷ 32 ∷ rest → LeadsToNone rest → IsOfCells 65536 event → line ≡ line_of event → ⊥
fires_none line rest event is leads within named =
    let f = of_fire event line rest is named in leads f.0.0 [] (subst (IsOfCells 65536) f.1 within) (whole rest f.0.0 f.2)

pub performs : (line rest : List ℕ) (cell : CellId) (event : Event) → line ≡ 68 ∷ 32 ∷ rest → LeadsToCell rest cell → IsOfCells 65536 event → line ≡ line_of event → Some (action.Perform cell) ≡ Some (action_of event)
performs line rest cell event is leads within named =
    let f = of_perform event line rest is named in
    ap (λ x. Some (action.Perform x)) (that_cell cell f.0 (leads f.0.0 [] (subst (IsOfCells 65536) f.1 within) (whole rest f.0.0 f.2))) ∙ ap (λ e. Some (action_of e)) (sym f.1)

pub performs_none : (line rest : List ℕ) (event : Event) → line ≡ 68 ∷ 32 ∷ rest → LeadsToNone rest → IsOfCells 65536 event → line ≡ line_of event → ⊥
performs_none line rest event is leads within named =
    let f = of_perform event line rest is named in leads f.0.0 [] (subst (IsOfCells 65536) f.1 within) (whole rest f.0.0 f.2)

pub arrives : (line rest : List ℕ) (port : Option Dest) (event : Event) → line ≡ 82 ∷ 32 ∷ rest → LeadsToPort rest port → IsOfCells 65536 event → line ≡ line_of event
    → option_map action.Arrive port ≡ Some (action_of event)
arrives line rest port event is leads within named =
    let f = of_arrive event line rest is named in
    let placed = subst (IsOfCells 65536) f.2 within in
    ap (option_map action.Arrive) (leads f.0 (codes " " ++ spelled f.1) placed.0 placed.1 refl f.3) ∙ ap (λ e. Some (action_of e)) (sym f.2)

pub acks : (line rest : List ℕ) (port : Option Dest) (event : Event) → line ≡ 65 ∷ 32 ∷ rest → LeadsToPort rest port → IsOfCells 65536 event → line ≡ line_of event
    → option_map action.Ack port ≡ Some (action_of event)
acks line rest port event is leads within named =
    let f = of_ack event line rest is named in
    let placed = subst (IsOfCells 65536) f.1 within in
    ap (option_map action.Ack) (leads f.0 [] placed.0 placed.1 refl (f.2 ∙ sym (append-nil (port_text f.0)))) ∙ ap (λ e. Some (action_of e)) (sym f.1)
