-- Runs of a machine whose step is a function.
use Rattle.parse_expr.specs.computed.Goes.{Goes, stay, go}
use Rattle.std.proofs.Common.{◌≡◌, List, [], ◌∷◌, ◌++◌, Option, Some, None, refl, ap, sym, ◌∙◌, subst}

pub some_is : {A : Type 0} {x y : A} → Some x ≡ Some y → x ≡ y
some_is e = cc

pub none_is : {A : Type 0} {x : A} → None ≡ Some x → ⊥
none_is e = cc

pub none_some : {A : Type 0} {x : A} (B : Type 0) → None ≡ Some x → B
none_some B e = absurd (none_is e)

module _ {S T : Type 0} (step : S → T → Option S) where
  pub then : (s m n : S) (ts us : List T) → Goes step s ts m → Goes step m us n → Goes step s (ts ++ us) n
  then s m n [] us a b = subst (λ z. Goes step z us n) (sym (nil a)) b
    where
      nil : {s n : S} → Goes step s [] n → s ≡ n
      nil (stay s) = refl
  then s m n (t ∷ ts) us a b = let c = cons a in go s c.0 n t (ts ++ us) c.1 (then c.0 m n ts us c.2 b)
    where
      cons : {s n : S} {t : T} {ts : List T} → Goes step s (t ∷ ts) n → (m : S) × (step s t ≡ Some m) × Goes step m ts n
      cons (go s m n t ts e a) = (m, e, a)

  pub goes_nil : {s n : S} → Goes step s [] n → s ≡ n
  goes_nil (stay s) = refl

  pub goes_cons : {s n : S} {t : T} {ts : List T} → Goes step s (t ∷ ts) n → (m : S) × (step s t ≡ Some m) × Goes step m ts n
  goes_cons (go s m n t ts e a) = (m, e, a)

  pub same_end : (ts : List T) (s m n : S) → Goes step s ts m → Goes step s ts n → m ≡ n
  same_end [] s m n a b = sym (goes_nil a) ∙ goes_nil b
  same_end (t ∷ ts) s m n a b =
      let x = goes_cons a in
      let y = goes_cons b in
      same_end ts x.0 m n x.2 (subst (λ z. Goes step z ts n) (some_is (sym y.1 ∙ x.1)) y.2)

  -- what is left of a run behind its first part
  pub remains : (front more : List T) (s m n : S) → Goes step s front m → Goes step s (front ++ more) n → Goes step m more n
  remains [] more s m n a b = subst (λ z. Goes step z more n) (goes_nil a) b
  remains (t ∷ front) more s m n a b =
      let x = goes_cons a in
      let y = goes_cons b in
      remains front more x.0 m n x.2 (subst (λ z. Goes step z (front ++ more) n) (some_is (sym y.1 ∙ x.1)) y.2)

  -- where a step stops, no run goes through
  pub stuck : (front : List T) (s m n : S) (t : T) (more : List T) → Goes step s front m → step m t ≡ None → Goes step s (front ++ (t ∷ more)) n → ⊥
  stuck [] s m n t more a e b = let y = goes_cons b in none_is (sym e ∙ ap (λ z. step z t) (sym (goes_nil a)) ∙ y.1)
  stuck (x ∷ front) s m n t more a e b =
      let u = goes_cons a in
      let v = goes_cons b in
      stuck front u.0 m n t more u.2 e (subst (λ z. Goes step z (front ++ (t ∷ more)) n) (some_is (sym v.1 ∙ u.1)) v.2)

-- a grammar whose lists the machine reads to their end
module _ {S T A : Type 0} (step : S → T → Option S) (finish : S → Option A) (start : S) (Good : List T → A → Type 0)
    (complete : (ts : List T) (a : A) → Good ts a → (m : S) × Goes step start ts m × (finish m ≡ Some a)) where
  pub one : (ts : List T) (a b : A) → Good ts a → Good ts b → a ≡ b
  one ts a b g h =
      let x = complete ts a g in
      let y = complete ts b h in
      some_is (sym x.2 ∙ ap finish (same_end step ts start x.0 y.0 x.1 y.1) ∙ y.2)

  pub no_further : (front : List T) (m : S) (t : T) (more : List T) (a : A) → Goes step start front m → step m t ≡ None → Good (front ++ (t ∷ more)) a → ⊥
  no_further front m t more a g e h = let x = complete (front ++ (t ∷ more)) a h in stuck step front start m x.0 t more g e x.1

  pub not_whole : (ts : List T) (m : S) (a : A) → Goes step start ts m → finish m ≡ None → Good ts a → ⊥
  not_whole ts m a g e h = let x = complete ts a h in none_is (sym e ∙ ap finish (same_end step ts start m x.0 g x.1) ∙ x.2)
