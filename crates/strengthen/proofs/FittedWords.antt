-- What a fit leaves of a value has room in a word.
use Rattle.std.proofs.Common.{◌≡◌, ◌∙◌, ◌<◌, ◌≤◌, ◌↔◌, ◌^◌, ℕ, IsTrue, false, inl, inr, List, length, get_or, sym, ap, subst, arith}
use Rattle.std.specs.Prelude.{Option, Some}
use Rattle.std.proofs.lemmas.Option.{slice_get_within, slice_get-get_or}
use Rattle.mono_list.proofs.Cases.{some_is}
use Rattle.mono_syntax.specs.Ty.{Ty, dyn, int, bool, str, nil, fun, obj}
use Rattle.mono_syntax.specs.declared.value.FnValue.{FnValue}
use Rattle.mono_syntax.specs.declared.value.TypeNo.{TypeNo}
use Rattle.mono_syntax.specs.declared.value.Value.{Value}
use Rattle.mono_syntax.specs.declared.value.Value.TheVariants as value
use Rattle.mono_tree.specs.TypeNumbers.{IsInRange, Names}
use Rattle.field_word.specs.Words.{FitsPayload}
use Rattle.function_wrap.specs.Narrowed.{IsNarrowed}
use Rattle.step_expr.specs.declared.data.Fit.TheVariants as fits
use Rattle.step_expr.specs.Fits.{FunctionFits, IsFit, IsOfTable}
use Rattle.type_numbers.specs.Tables.{Table}
use Rattle.strengthen.specs.declared.data.Obligation.{Obligation}
use Rattle.strengthen.specs.declared.data.Verdict.{Verdict}
use Rattle.strengthen.specs.declared.data.Verdict.TheVariants as verdict
use Rattle.strengthen.specs.Demands.{IsOpened, IsReadied, IsSet, SetsCellWord}

-- the type of a number in range
pub named : (ts : List Ty) (n : TypeNo) → IsInRange ts n → (a : Ty) × Names ts n a
named ts n h = (get_or ts n.0 dyn, slice_get-get_or ts n.0 dyn h)

-- a number in range fits its bits
pub small : (ts : List Ty) (n : TypeNo) → IsInRange ts n → length ts ≤ 4095 → n.0 < 4095
small ts n h few = omega arith

narrowed_fits : (t : Table) (f g : FnValue) (a b : Ty) → length t.types ≤ 4095 → FitsPayload (value.Fun f) → IsNarrowed t.types f a b g
    → FitsPayload (value.Fun g)
narrowed_fits t f g a b few p n =
    let low : (f.func).0 < 2 ^ 12 = p.0 in
    let same : g.func ≡ f.func = n.same in
    let within : (g.merged).0 < length t.types = slice_get_within t.types (g.merged).0 n.meet n.names in
    (rw same low, omega arith)

function_fits : (t : Table) (f : FnValue) (a b : Ty) (v : Value) → length t.types ≤ 4095 → FitsPayload (value.Fun f)
    → FunctionFits t f a b (fits.Holds v) → FitsPayload v
function_fits t f a b (value.Fun g) few p n = narrowed_fits t f g a b few p n
function_fits t f a b v few p n = absurd n

held : (v w : Value) → fits.Holds v ≡ fits.Holds w → FitsPayload w → FitsPayload v
held v w e p = let same : w ≡ v = cc in subst FitsPayload same p

-- what holds, where the value itself has room
pub held_fits : (t : Table) (w : Value) (m : Ty) (v : Value) → length t.types ≤ 4095 → IsOfTable t w → FitsPayload w
    → IsFit t w m (fits.Holds v) → FitsPayload v
held_fits t w dyn v few h p e = held v w e p
held_fits t (value.Int n) int v few h p e = held v (value.Int n) e p
held_fits t (value.Bool b) bool v few h p e = held v (value.Bool b) e p
held_fits t (value.Text x) str v few h p e = held v (value.Text x) e p
held_fits t value.Nil nil v few h p e = held v value.Nil e p
held_fits t (value.Fun f) (fun ps q) v few h p e =
    let a = named t.types f.merged h in
    function_fits t f a.0 (fun ps q) v few p (e a.0 a.1)
held_fits t (value.Obj c base) (obj fs) v few h p e = absurd (e (get_or t.classes c.0 dyn) (slice_get-get_or t.classes c.0 dyn h))
held_fits t w m v few h p e = absurd cc

function_of_table : (t : Table) (f : FnValue) (a b : Ty) (v : Value) → FunctionFits t f a b (fits.Holds v) → IsOfTable t v
function_of_table t f a b (value.Fun g) n = slice_get_within t.types (g.merged).0 n.meet n.names
function_of_table t f a b v n = absurd n

held_same : (t : Table) (v w : Value) → fits.Holds v ≡ fits.Holds w → IsOfTable t w → IsOfTable t v
held_same t v w e h = let same : w ≡ v = cc in subst (IsOfTable t) same h

-- the numbers in what holds are in the table's ranges, as those of the value itself
pub held_of_table : (t : Table) (w : Value) (m : Ty) (v : Value) → IsOfTable t w → IsFit t w m (fits.Holds v) → IsOfTable t v
held_of_table t w dyn v h e = held_same t v w e h
held_of_table t (value.Int n) int v h e = held_same t v (value.Int n) e h
held_of_table t (value.Bool b) bool v h e = held_same t v (value.Bool b) e h
held_of_table t (value.Text x) str v h e = held_same t v (value.Text x) e h
held_of_table t value.Nil nil v h e = held_same t v value.Nil e h
held_of_table t (value.Fun f) (fun ps q) v h e =
    let a = named t.types f.merged h in
    function_of_table t f a.0 (fun ps q) v (e a.0 a.1)
held_of_table t (value.Obj c base) (obj fs) v h e = absurd (e (get_or t.classes c.0 dyn) (slice_get-get_or t.classes c.0 dyn h))
held_of_table t w m v h e = absurd cc

-- a cell that is set to a type and a value of the table
pub set_word : (t : Table) (seen : ℕ) (m : TypeNo) (v : Value) (r : Verdict) → IsInRange t.types m → IsOfTable t v → IsSet seen m v r
    → SetsCellWord t r
set_word t seen m v (verdict.Set expected new) h p s = record { recorded = m; value = v; range = h; of_table = p; is_word = s.1 }
set_word t seen m v _ h p s = absurd s

readied_word : (t : Table) (o : Obligation) (w : Value) (m : TypeNo) (r : Verdict) → IsReadied o w m r → SetsCellWord t r
readied_word t o w m (verdict.Ready p) s = tt
readied_word t o w m _ s = absurd s

-- and where that is an object
pub opened_word : (t : Table) (o : Obligation) (seen : ℕ) (w : Value) (m : TypeNo) (r : Verdict) → IsInRange t.types m → IsOfTable t w
    → IsOpened o seen w m r → SetsCellWord t r
opened_word t o seen w m r h p (inl s) = set_word t seen m w r h p s.1
opened_word t o seen w m r h p (inr s) = readied_word t o w m r s.1

-- what a failed test decides
pub fails : {A : Type 0} → IsTrue false ↔ A → A → ⊥
fails e a = let holds : IsTrue false = e.1 a in absurd cc

-- what unpacks to two pairs unpacks to one
pub same_pair : (o : Option (TypeNo × Value)) (n m : TypeNo) (w v : Value) → o ≡ Some (n, w) → o ≡ Some (m, v) → (n ≡ m) × (w ≡ v)
same_pair o n m w v e f =
    let same : (n, w) ≡ (m, v) = some_is (sym e ∙ f) in
    (ap (λ (p : TypeNo × Value). p.0) same, ap (λ (p : TypeNo × Value). p.1) same)
