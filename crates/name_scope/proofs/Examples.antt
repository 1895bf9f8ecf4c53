-- The rules on small scripts: each has this first fault, or none.
use Rattle.std.proofs.Common.{◌≡◌, ℕ, List, [], ◌∷◌, Option, Some, None, refl}
use Rattle.std.specs.Prelude.{codes}
use Rattle.mono_syntax.specs.declared.leaf.Place.{Place}
use Rattle.mono_syntax.specs.declared.leaf.Word.{Word}
use Rattle.mono_syntax.specs.declared.refusal.Reason.{Reason}
use Rattle.mono_syntax.specs.declared.refusal.Reason.TheVariants.{UnknownName, Twice, Misused}
use Rattle.mono_syntax.specs.declared.refusal.Refusal.{Refusal}
use Rattle.mono_syntax.specs.declared.tree.Item.{Item}
use Rattle.mono_syntax.specs.declared.tree.Item.TheVariants as item
use Rattle.mono_syntax.specs.Ann.{Ann, ann}
use Rattle.mono_syntax.specs.Ann as form
use Rattle.mono_syntax.specs.Expr.{Expr, local, number, call, join, no_exprs, more_exprs}
use Rattle.mono_syntax.specs.Stmt.{pass, print, assign, start}
use Rattle.name_scope.specs.computed.FoundFaults.{name_faults, first_of_all}

abbrev place : ℕ → ℕ → Place
place l c = record { line = l; column = c }

abbrev word : List ℕ → ℕ → ℕ → Word
word x l c = record { text = x; place = place l c }

-- the first fault of the script of these items
abbrev first_in : List Item → Option Refusal
first_in is = first_of_all None (name_faults (record { items = is }))

abbrev fault : ℕ → ℕ → Reason → Option Refusal
fault l c r = Some (record { place = place l c; reason = r })

abbrev one : ℕ → ℕ → Expr
one l c = number (place l c) 1

abbrev int_at : ℕ → ℕ → Ann
int_at l c = ann (place l c) form.int

-- `def f():` and `pass` in the first two lines
abbrev def_f : Item
def_f = item.Def (record { name = word (codes "f") 1 5; params = []; result = None; body = pass ∷ [] })

-- `class P:` and `x: int` in the first two lines
abbrev class_p : Item
class_p = item.Class (record { name = word (codes "P") 1 7; fields = record { name = word (codes "x") 2 5; ann = int_at 2 8 } ∷ [] })

-- print(x)
unknown : first_in (item.Stmt (print (place 1 6) (more_exprs (local (word (codes "x") 1 7)) no_exprs)) ∷ []) ≡ fault 1 7 UnknownName
unknown = refl

-- p: Q = 1
unknown_type : first_in (item.Stmt (assign (word (codes "p") 1 1) (Some (ann (place 1 4) (form.class (word (codes "Q") 1 4)))) (one 1 8)) ∷ []) ≡ fault 1 4 UnknownName
unknown_type = refl

-- x: int = 1, twice
annotated_twice : first_in (item.Stmt (assign (word (codes "x") 1 1) (Some (int_at 1 4)) (one 1 10)) ∷ item.Stmt (assign (word (codes "x") 2 1) (Some (int_at 2 4)) (one 2 10)) ∷ []) ≡ fault 2 1 Twice
annotated_twice = refl

-- x: int = 1, and x = 1
assigned_again : first_in (item.Stmt (assign (word (codes "x") 1 1) (Some (int_at 1 4)) (one 1 10)) ∷ item.Stmt (assign (word (codes "x") 2 1) None (one 2 5)) ∷ []) ≡ None
assigned_again = refl

-- def f(a, a): pass
parameter_twice : first_in (item.Def (record { name = word (codes "f") 1 5; params = record { name = word (codes "a") 1 7; ann = None } ∷ record { name = word (codes "a") 1 10; ann = None } ∷ []; result = None; body = pass ∷ [] }) ∷ []) ≡ fault 1 10 Twice
parameter_twice = refl

-- class P, and a function of its name
defined_twice : first_in (class_p ∷ item.Def (record { name = word (codes "P") 3 5; params = []; result = None; body = pass ∷ [] }) ∷ []) ≡ fault 3 5 Twice
defined_twice = refl

-- def f, and f = 1: the later of the two
also_function : first_in (def_f ∷ item.Stmt (assign (word (codes "f") 3 1) None (one 3 5)) ∷ []) ≡ fault 3 1 Twice
also_function = refl

-- g = 1, and def g: the later of the two
function_too : first_in (item.Stmt (assign (word (codes "g") 1 1) None (one 1 5)) ∷ item.Def (record { name = word (codes "g") 2 5; params = []; result = None; body = pass ∷ [] }) ∷ []) ≡ fault 2 5 Twice
function_too = refl

-- def f, t = start(f) and print(t)
thread_read : first_in (def_f ∷ item.Stmt (start (word (codes "t") 3 1) (place 3 10) (local (word (codes "f") 3 11)) no_exprs) ∷ item.Stmt (print (place 4 6) (more_exprs (local (word (codes "t") 4 7)) no_exprs)) ∷ []) ≡ fault 4 7 Misused
thread_read = refl

-- def f, t = start(f) and print(join(t))
thread_joined : first_in (def_f ∷ item.Stmt (start (word (codes "t") 3 1) (place 3 10) (local (word (codes "f") 3 11)) no_exprs) ∷ item.Stmt (print (place 4 6) (more_exprs (join (place 4 7) (word (codes "t") 4 12)) no_exprs)) ∷ []) ≡ None
thread_joined = refl

-- t = start(join(t))
joined_early : first_in (item.Stmt (start (word (codes "t") 1 1) (place 1 10) (join (place 1 11) (word (codes "t") 1 16)) no_exprs) ∷ []) ≡ fault 1 16 Misused
joined_early = refl

-- class P, and p = P
class_read : first_in (class_p ∷ item.Stmt (assign (word (codes "p") 3 1) None (local (word (codes "P") 3 5))) ∷ []) ≡ fault 3 5 Misused
class_read = refl

-- class P, and p = P(1)
class_called : first_in (class_p ∷ item.Stmt (assign (word (codes "p") 3 1) None (call (place 3 6) (local (word (codes "P") 3 5)) (more_exprs (one 3 7) no_exprs))) ∷ []) ≡ None
class_called = refl

-- a use before its function's place is fine
used_before : first_in (item.Stmt (assign (word (codes "p") 1 1) None (call (place 1 6) (local (word (codes "g") 1 5)) no_exprs)) ∷ item.Def (record { name = word (codes "g") 2 5; params = []; result = None; body = pass ∷ [] }) ∷ []) ≡ None
used_before = refl
