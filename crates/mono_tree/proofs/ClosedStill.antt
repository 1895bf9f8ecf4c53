-- One more row adds nothing to a closed list.
use Rattle.std.proofs.Common.{◌≡◌, ℕ, List, refl, sym, subst, length, ◌≤◌}
use Rattle.std.specs.Prelude.{Option, Some, None, slice_get, Contains, take}
use Rattle.mono_syntax.specs.Ty.{Ty}
use Rattle.mono_tree.specs.ClosedList.{each_parts_first, row_meets, with_row, after_rows, IsClosedList}
use Rattle.mono_tree.proofs.ClosedPuts.{none_in}
use Rattle.mono_tree.proofs.ClosedParts.{only_each}
use Rattle.mono_tree.proofs.ClosedMembers.{met_only, in_take, get_in, met_all, rows_closed}
use Rattle.mono_tree.proofs.ClosedPuts.{all_there}

module _ (types : List Ty) (k : ℕ) (whole : length (after_rows types k) ≤ k) where
  row_in : (n : ℕ) (o : Option Ty) → slice_get (after_rows types k) n ≡ o → (m : Ty) → Contains (row_meets o (take n (after_rows types k))) m → Contains (after_rows types k) m
  row_in n None e m c = absurd (none_in m c)
  row_in n (Some t) e m c = met_only (Contains (after_rows types k)) t (take n (after_rows types k))
      (λ u w i f. met_all types k whole u t w (in_take n (after_rows types k) u i) (get_in (after_rows types k) n t e) f) m c

  pub still_rows : (n : ℕ) → with_row (after_rows types k) n ≡ after_rows types k
  still_rows n = all_there (after_rows types k) (each_parts_first (row_meets (slice_get (after_rows types k) n) (take n (after_rows types k))))
      (λ u c. only_each (Contains (after_rows types k)) ((rows_closed types k).part) (row_meets (slice_get (after_rows types k) n) (take n (after_rows types k))) u
      (row_in n (slice_get (after_rows types k) n) refl) c)

pub still : (types l : List Ty) → IsClosedList types l → (n : ℕ) → with_row l n ≡ l
still types l p n = subst (λ (x : List Ty). with_row x n ≡ x) p.made (still_rows types p.rows (subst (λ (x : List Ty). length x ≤ p.rows) (sym p.made) p.whole) n)
