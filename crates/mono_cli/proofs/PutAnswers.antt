-- What a status says of what is shown.
use Rattle.std.proofs.Common.{ℕ, ◌≡◌, ◌≢◌, ◌≤◌, ◌⊎◌, inl, inr, arith, refl}
use Rattle.mono_cli.specs.Answer.{Answer}
use Rattle.mono_cli.specs.Putting.{Stream, HasFailed, GetsNothing, IsPut, whole, out_failed, err_failed, no_memory, PutsAnswer, PutsWhole}

-- a kind of answers whose statuses are at most 6
abbrev pub AreOrdinary : (Answer → Type 0) → Type 0
AreOrdinary P = (a : Answer) → P a → a.status ≤ 6

put_whole : (P : Answer → Type 0) (a : Answer) → P a → (out err : Stream) (status : ℕ) →
    IsPut a out err status → status ≤ 6 → PutsWhole P out err status
put_whole P a h out err status (whole p q) l = record { answer = a; is = h; status_is = refl; out_is = p; err_is = q }
put_whole P a h out err status (out_failed p r q) l = absurd (omega (arith, l))
put_whole P a h out err status (err_failed p r q) l = absurd (omega (arith, l))
put_whole P a h out err status (no_memory p q) l = absurd (omega (arith, l))

pub answers_whole : (P : Answer → Type 0) (out err : Stream) (status : ℕ) →
    PutsAnswer P out err status → status ≤ 6 → PutsWhole P out err status
answers_whole P out err status (inl x) l = put_whole P x.0 x.1 out err status x.2 l
answers_whole P out err status (inr x) l = absurd (omega (arith, l, x.0))

put_complete : (P : Answer → Type 0) (a : Answer) → P a → (out err : Stream) (status : ℕ) →
    IsPut a out err status → (HasFailed out → ⊥) → (HasFailed err → ⊥) → status ≢ 8 → PutsWhole P out err status
put_complete P a h out err status (whole p q) f g n = record { answer = a; is = h; status_is = refl; out_is = p; err_is = q }
put_complete P a h out err status (out_failed p r q) f g n = absurd (f r)
put_complete P a h out err status (err_failed p q r) f g n = absurd (g r)
put_complete P a h out err status (no_memory p q) f g n = absurd (n refl)

pub answers_complete : (P : Answer → Type 0) (out err : Stream) (status : ℕ) →
    PutsAnswer P out err status → (HasFailed out → ⊥) → (HasFailed err → ⊥) → status ≢ 8 → PutsWhole P out err status
answers_complete P out err status (inl x) f g n = put_complete P x.0 x.1 out err status x.2 f g n
answers_complete P out err status (inr x) f g n = absurd (n x.0)

put_failed : (a : Answer) → a.status ≤ 6 → (out err : Stream) (status : ℕ) →
    IsPut a out err status → status ≡ 7 → HasFailed out ⊎ HasFailed err
put_failed a l out err status (whole p q) s = absurd (omega (arith, l, s))
put_failed a l out err status (out_failed p r q) s = inl r
put_failed a l out err status (err_failed p q r) s = inr r
put_failed a l out err status (no_memory p q) s = absurd (omega (arith, s))

pub answers_failed : (P : Answer → Type 0) → AreOrdinary P → (out err : Stream) (status : ℕ) →
    PutsAnswer P out err status → status ≡ 7 → HasFailed out ⊎ HasFailed err
answers_failed P k out err status (inl x) s = put_failed x.0 (k x.0 x.1) out err status x.2 s
answers_failed P k out err status (inr x) s = absurd (omega (arith, s, x.0))

put_memory : (a : Answer) → a.status ≤ 6 → (out err : Stream) (status : ℕ) →
    IsPut a out err status → status ≡ 8 → GetsNothing err
put_memory a l out err status (whole p q) s = absurd (omega (arith, l, s))
put_memory a l out err status (out_failed p r q) s = q
put_memory a l out err status (err_failed p q r) s = absurd (omega (arith, s))
put_memory a l out err status (no_memory p q) s = q

pub answers_memory : (P : Answer → Type 0) → AreOrdinary P → (out err : Stream) (status : ℕ) →
    PutsAnswer P out err status → status ≡ 8 → GetsNothing err
answers_memory P k out err status (inl x) s = put_memory x.0 (k x.0 x.1) out err status x.2 s
answers_memory P k out err status (inr x) s = x.2

put_most : (a : Answer) → a.status ≤ 6 → (out err : Stream) (status : ℕ) →
    IsPut a out err status → status ≤ 8
put_most a l out err status (whole p q) = omega (arith, l)
put_most a l out err status (out_failed p r q) = omega arith
put_most a l out err status (err_failed p q r) = omega arith
put_most a l out err status (no_memory p q) = omega arith

pub answers_most : (P : Answer → Type 0) → AreOrdinary P → (out err : Stream) (status : ℕ) →
    PutsAnswer P out err status → status ≤ 8
answers_most P k out err status (inl x) = put_most x.0 (k x.0 x.1) out err status x.2
answers_most P k out err status (inr x) = omega (arith, x.0)

-- another kind of answers that takes in the first
pub answers_also : (P Q : Answer → Type 0) → ((a : Answer) → P a → Q a) → (out err : Stream) (status : ℕ) →
    PutsAnswer P out err status → PutsAnswer Q out err status
answers_also P Q f out err status (inl x) = inl (x.0, f x.0 x.1, x.2)
answers_also P Q f out err status (inr x) = inr x
