-- The steps and the pending operators of what was read.
use Rattle.std.proofs.Common.{◌≡◌, ◌≢◌, ℕ, List, [], ◌∷◌, ◌++◌, Option, Some, None, true, false, length, refl, sym, ◌∙◌, ap, subst, inl, inr, arith}
use Rattle.std.specs.Prelude.{Err, IfErr, Result, codes, map}
use Rattle.std.proofs.lemmas.List.{append_assoc, append-nil, length-append, map_push}
use Rattle.resolve.specs.declared.condition.ConditionStep.{ConditionStep}
use Rattle.resolve.specs.declared.condition.ConditionStep.TheVariants.{Version}
use Rattle.resolve.specs.declared.condition.PendingOperators.{PendingOperators}
use Rattle.resolve.specs.declared.condition.Reading.{Reading}
use Rattle.resolve.specs.declared.words.Spec.{Spec}
use Rattle.resolve.specs.declared.ids.Range.{Range}
use Rattle.resolve.specs.declared.condition.Sign.{Sign}
use Rattle.resolve.specs.declared.condition.Sign.TheVariants.{And, Or, Close}
use Rattle.resolve.specs.Signs.{sign_text}
use Rattle.resolve.specs.declared.statement.LineError.{LineError}
use Rattle.resolve.specs.declared.statement.LineError.TheVariants.{Bad, Exhausted}
use Rattle.resolve.specs.Words.{StatesSpec}
use Rattle.resolve.proofs.GuardRuns.{Leads, Runs, Runs-append, guard_runs, lead_runs, lead_start, led_guard, runs_on}
use Rattle.resolve.specs.Guards.{ReadsGuard, RefusesGuard, step_seen}
use Rattle.resolve.specs.Readings.{EndsWithSteps, Level, RefusesEnd, RefusesWord, Shows, State, StepAt, StepsTo, after_and, after_level, joined_all, joined_and, no_level, pending_operators}
use Rattle.resolve.specs.Readings.{pending_outside, state}
use Rattle.resolve.specs.Said.{Guard, Wanted, on}
use Rattle.resolve.specs.Spelling.{Guards, Wants, any_of}
use Rattle.resolve.specs.Unions.{wanted_of}

-- two lists with a last element
pub last_same : {X : Type 0} (xs ys : List X) (x y : X) → xs ++ x ∷ [] ≡ ys ++ y ∷ [] → (xs ≡ ys) × (x ≡ y)
last_same [] [] x y e = (refl, cc)
last_same [] (b ∷ []) x y e = absurd cc
last_same [] (b ∷ c ∷ ys) x y e = absurd cc
last_same (a ∷ []) [] x y e = absurd cc
last_same (a ∷ c ∷ xs) [] x y e = absurd cc
last_same (a ∷ xs) (b ∷ ys) x y e =
    let head : a ≡ b = cc in
    let tail : xs ++ x ∷ [] ≡ ys ++ y ∷ [] = cc in
    let rest = last_same xs ys x y tail in (let same : xs ≡ ys = rest.0 in cc, rest.1)

-- a parenthesis is opened
opened_at : (part : Option Guard) (outside : List Level) (here : Level) (word : List ℕ) (it new : Reading) → Shows it (state outside here part) →
    it.wants_part ≡ true → word ≡ codes "(" → new.steps.items ≡ it.steps.items → new.pending ≡ pending_operators no_level →
    new.outside.items ≡ it.outside.items ++ it.pending ∷ [] → new.wants_part ≡ true → StepsTo (state outside here part) word new
opened_at (Some g) outside here word it new h w is steps pending out wants = absurd (let wrong : false ≡ true = sym h.part ∙ w in cc)
opened_at None outside here word it new h w is steps pending out wants = record {
  next = state (here ∷ outside) no_level None;
  step = inl (is, refl);
  shows = record {
    steps = ap (map step_seen) steps ∙ h.steps ∙ simp (append_assoc, append-nil);
    pending = pending;
    outside = out ∙ (λ i. h.outside i ++ h.pending i ∷ []);
    part = wants;
  };
}

pub opened : (s : State) (word : List ℕ) (it new : Reading) → Shows it s → it.wants_part ≡ true → word ≡ codes "(" → new.steps.items ≡ it.steps.items →
    new.pending ≡ pending_operators no_level → new.outside.items ≡ it.outside.items ++ it.pending ∷ [] → new.wants_part ≡ true → StepsTo s word new
opened s word it new h = opened_at s.part s.outside s.here word it new h

-- a spec is pushed
with_spec_at : (part : Option Guard) (outside : List Level) (here : Level) (word : List ℕ) (it new : Reading) (spec : Spec) →
    Shows it (state outside here part) → it.wants_part ≡ true → Wants word (wanted_of spec) → new.steps.items ≡ it.steps.items ++ Version spec ∷ [] → new.pending ≡ it.pending →
    new.outside.items ≡ it.outside.items → new.wants_part ≡ false → StepsTo (state outside here part) word new
with_spec_at (Some g) outside here word it new spec h w is steps pending out wants = absurd (let wrong : false ≡ true = sym h.part ∙ w in cc)
with_spec_at None outside here word it new spec h w is steps pending out wants = record {
  next = state outside here (Some (on (wanted_of spec)));
  step = inr (wanted_of spec, is, refl);
  shows = record {
    steps = ap (map step_seen) steps ∙ map_push step_seen it.steps.items (Version spec) ∙ ap (λ ss. ss ++ step_seen (Version spec) ∷ []) h.steps ∙
        simp (append_assoc, append-nil);
    pending = pending ∙ h.pending;
    outside = out ∙ h.outside;
    part = wants;
  };
}

pub with_spec : (s : State) (word : List ℕ) (it new : Reading) (spec : Spec) → Shows it s → it.wants_part ≡ true → Wants word (wanted_of spec) →
    new.steps.items ≡ it.steps.items ++ Version spec ∷ [] → new.pending ≡ it.pending → new.outside.items ≡ it.outside.items → new.wants_part ≡ false →
    StepsTo s word new
with_spec s word it new spec h = with_spec_at s.part s.outside s.here word it new spec h

-- where no spec was read, no part begins
no_part_at : (part : Option Guard) (outside : List Level) (here : Level) (word : List ℕ) (it : Reading) → Shows it (state outside here part) →
    it.wants_part ≡ true → word ≢ codes "(" → ((wanted : Wanted) → Wants word wanted → ⊥) → (next : State) → StepAt part outside here word next → ⊥
no_part_at (Some g) outside here word it h w other bad next step = let wrong : false ≡ true = sym h.part ∙ w in cc
no_part_at None outside here word it h w other bad next (inl (is, same)) = other is
no_part_at None outside here word it h w other bad next (inr (wanted, wants, same)) = bad wanted wants

pub no_part : (s : State) (word : List ℕ) (it : Reading) → Shows it s → it.wants_part ≡ true → word ≢ codes "(" →
    ((name : List ℕ) (versions : Range) → StatesSpec word name versions → ⊥) → RefusesWord s word Bad
no_part s word it h w other bad = no_part_at s.part s.outside s.here word it h w other (λ wanted wants. bad wanted.name wanted.range wants)

-- an operator waits for its right part
module _ (outside : List Level) (here : Level) (g : Guard) (word : List ℕ) (it new : Reading) (out : new.outside.items ≡ it.outside.items)
    (steps : new.steps.items ≡ it.steps.items) (wants : new.wants_part ≡ true) where
  with_and_at : Shows it (after_and outside here g) → word ≡ codes "and" → new.pending ≡ record { or = it.pending.or; and = true } →
      StepsTo (state outside here (Some g)) word new
  with_and_at h is pending = record {
    next = state outside (record { or_left = here.or_left; and_left = Some (joined_and here.and_left g) }) None;
    step = inl (is, refl);
    shows = record {
      steps = ap (map step_seen) steps ∙ h.steps ∙ simp (append_assoc, append-nil);
      pending = pending ∙ ap (λ (p : PendingOperators). record { or = p.or; and = true }) h.pending;
      outside = out ∙ h.outside;
      part = wants;
    };
  }

  with_or_at : Shows it (after_level outside here g) → word ≡ codes "or" → new.pending ≡ record { or = true; and = it.pending.and } →
      StepsTo (state outside here (Some g)) word new
  with_or_at h is pending = record {
    next = state outside (record { or_left = Some (joined_all here g); and_left = None }) None;
    step = inr (inl (is, refl));
    shows = record {
      steps = ap (map step_seen) steps ∙ h.steps ∙ simp (append_assoc, append-nil);
      pending = pending ∙ ap (λ (p : PendingOperators). record { or = true; and = p.and }) h.pending;
      outside = out ∙ h.outside;
      part = wants;
    };
  }

-- a parenthesis is closed
closed_at : (outside : List Level) (here : Level) (g : Guard) (word : List ℕ) (it new : Reading) → Shows it (after_level outside here g) → word ≡ codes ")" →
    new.steps.items ≡ it.steps.items → it.outside.items ≡ new.outside.items ++ new.pending ∷ [] → new.wants_part ≡ it.wants_part →
    StepsTo (state outside here (Some g)) word new
closed_at [] here g word it new h is steps out wants =
    absurd (omega (arith, ap length (sym h.outside ∙ out), simp length-append at (ap length (sym h.outside ∙ out))))
closed_at (level ∷ levels) here g word it new h is steps out wants =
    let cut = last_same (pending_outside levels) new.outside.items (pending_operators level) new.pending (sym h.outside ∙ out) in
    record {
      next = state levels level (Some (joined_all here g));
      step = inr (inr (is, level, levels, refl, refl));
      shows = record {
        steps = ap (map step_seen) steps ∙ h.steps ∙ simp append_assoc;
        pending = sym cut.1;
        outside = sym cut.0;
        part = wants ∙ h.part;
      };
    }

-- the part that was read, where no part is wanted
part_read : (part : Option Guard) (outside : List Level) (here : Level) (it : Reading) → Shows it (state outside here part) → it.wants_part ≡ false →
    (g : Guard) × (part ≡ Some g)
part_read None outside here it h w = absurd (let wrong : true ≡ false = sym h.part ∙ w in cc)
part_read (Some g) outside here it h w = (g, refl)

pub part_of : (s : State) (it : Reading) → Shows it s → it.wants_part ≡ false → (g : Guard) × (s ≡ state s.outside s.here (Some g))
part_of s it h w = let read = part_read s.part s.outside s.here it h w in (read.0, ap (state s.outside s.here) read.1)

module _ (s : State) (word : List ℕ) (old it new : Reading) (w : old.wants_part ≡ false) (h : Shows old s) where
  pub with_and : ((outside : List Level) (here : Level) (g : Guard) → Shows old (state outside here (Some g)) → Shows it (after_and outside here g)) →
      word ≡ codes "and" → new.steps.items ≡ it.steps.items → new.pending ≡ record { or = it.pending.or; and = true } →
      new.outside.items ≡ it.outside.items → new.wants_part ≡ true → StepsTo s word new
  with_and joins is steps pending out wants =
      let read = part_of s old h w in
      let P : State → Type 0 = λ x. StepsTo x word new in
      subst P (sym read.1)
      (with_and_at s.outside s.here read.0 word it new out steps wants (joins s.outside s.here read.0 (subst (Shows old) read.1 h)) is pending)

  pub with_or : ((outside : List Level) (here : Level) (g : Guard) → Shows old (state outside here (Some g)) → Shows it (after_level outside here g)) →
      word ≡ codes "or" → new.steps.items ≡ it.steps.items → new.pending ≡ record { or = true; and = it.pending.and } →
      new.outside.items ≡ it.outside.items → new.wants_part ≡ true → StepsTo s word new
  with_or joins is steps pending out wants =
      let read = part_of s old h w in
      let P : State → Type 0 = λ x. StepsTo x word new in
      subst P (sym read.1)
      (with_or_at s.outside s.here read.0 word it new out steps wants (joins s.outside s.here read.0 (subst (Shows old) read.1 h)) is pending)

  pub closed : ((outside : List Level) (here : Level) (g : Guard) → Shows old (state outside here (Some g)) → Shows it (after_level outside here g)) →
      word ≡ codes ")" → new.steps.items ≡ it.steps.items → it.outside.items ≡ new.outside.items ++ new.pending ∷ [] →
      new.wants_part ≡ it.wants_part → StepsTo s word new
  closed joins is steps out wants =
      let read = part_of s old h w in
      let P : State → Type 0 = λ x. StepsTo x word new in
      subst P (sym read.1) (closed_at s.outside s.here read.0 word it new (joins s.outside s.here read.0 (subst (Shows old) read.1 h)) is steps out wants)

-- where no sign was read, no part ends
module _ (word : List ℕ) (bad : (sign : Sign) → word ≢ sign_text sign) where
  no_sign_at : (g : Guard) (outside : List Level) (here : Level) (next : State) → StepAt (Some g) outside here word next → ⊥
  no_sign_at g outside here next (inl (is, same)) = bad And is
  no_sign_at g outside here next (inr (inl (is, same))) = bad Or is
  no_sign_at g outside here next (inr (inr (is, level, levels, open_at, same))) = bad Close is

  pub no_sign : (s : State) (it : Reading) → Shows it s → it.wants_part ≡ false → RefusesWord s word Bad
  no_sign s it h w =
      let read = part_of s it h w in
      let P : State → Type 0 = λ x. RefusesWord x word Bad in
      subst P (sym read.1) (no_sign_at read.0 s.outside s.here)

none_outside : (levels : List Level) (xs : List PendingOperators) → xs ≡ pending_outside levels → length xs ≡ 0 → levels ≡ []
none_outside [] xs e h = refl
none_outside (level ∷ levels) xs e h = absurd (omega (arith, h, simp length-append at (ap length e)))

-- the end, where nothing is open
pub ended : (s : State) (old it : Reading) → Shows old s → old.wants_part ≡ false → length old.outside.items ≡ 0 →
    ((outside : List Level) (here : Level) (g : Guard) → Shows old (state outside here (Some g)) → Shows it (after_level outside here g)) →
    EndsWithSteps s it.steps.items
ended s old it h w none joins =
    let read = part_of s old h w in
    let empty : s.outside ≡ [] = none_outside s.outside old.outside.items h.outside none in
    let is : s ≡ state [] s.here (Some read.0) = read.1 ∙ ap (λ o. state o s.here (Some read.0)) empty in
    record {
      here = s.here;
      part = read.0;
      is = is;
      steps_are = (joins [] s.here read.0 (subst (Shows old) is h)).steps;
    }

-- the words up to here, and the state that they lead to
pub record ReadTo (words left : List (List ℕ)) (it : Reading) : Type 0 where
  pub read : List (List ℕ)
  pub is : words ≡ read ++ left
  pub at : State
  pub runs : Runs (state [] no_level None) read at
  pub shows : Shows it at

pub read_none : (words : List (List ℕ)) (it : Reading) → Shows it (state [] no_level None) → ReadTo words words it
read_none words it h = record { read = []; is = refl; at = state [] no_level None; runs = refl; shows = h }

pub read_on : (words left rest : List (List ℕ)) (word : List ℕ) (it new : Reading) (h : ReadTo words left it) → left ≡ word ∷ rest →
    StepsTo h.at word new → ReadTo words rest new
read_on words left rest word it new h e step = record {
  read = h.read ++ word ∷ [];
  is = h.is ∙ ap (λ l. h.read ++ l) e ∙ sym (append_assoc h.read (word ∷ []) rest);
  at = step.next;
  runs = Runs-append _ h.read (word ∷ []) _ _ h.runs (step.next, step.step, refl);
  shows = step.shows;
}

-- at the end the words are a guard
pub reads_guard : (words left : List (List ℕ)) (it : Reading) (steps : List ConditionStep) (h : ReadTo words left it) → left ≡ [] → EndsWithSteps h.at steps →
    ReadsGuard words steps
reads_guard words left it steps h none end =
    let all : words ≡ h.read = h.is ∙ ap (λ l. h.read ++ l) none ∙ append-nil h.read in
    let leads : Leads h.at h.read = lead_runs (state [] no_level None) h.read h.at [] lead_start h.runs in
    let led : Guards any_of h.read (joined_all end.here end.part) =
    led_guard end.here end.part h.read (let P : State → Type 0 = λ s. Leads s h.read in subst P end.is leads) in
    let P : List (List ℕ) → Type 0 = λ ws. Guards any_of ws (joined_all end.here end.part) in
    (joined_all end.here end.part, subst P (sym all) led, end.steps_are)

-- the rest of a guard's words leads to an end
guard_rest : (words left : List (List ℕ)) (it : Reading) (h : ReadTo words left it) (g : Guard) → Guards any_of words g →
    (level : Level) × (last : Guard) × Runs h.at left (state [] level (Some last))
guard_rest words left it h g guards =
    let run = guard_runs words g guards in
    let P : List (List ℕ) → Type 0 = λ ws. Runs (state [] no_level None) ws (state [] run.0 (Some run.1)) in
    (run.0, run.1, runs_on (state [] no_level None) h.read left h.at (state [] run.0 (Some run.1)) h.runs (subst P h.is run.3))

-- a bad word
pub refuses_word : (words left rest : List (List ℕ)) (word : List ℕ) (it : Reading) (e : LineError) (h : ReadTo words left it) → left ≡ word ∷ rest →
    RefusesWord h.at word e → RefusesGuard words e
refuses_word words left rest word it (Exhausted x) h is bad = tt
refuses_word words left rest word it Bad h is bad = λ g guards.
    let run = guard_rest words left it h g guards in
    let P : List (List ℕ) → Type 0 = λ ws. Runs h.at ws (state [] run.0 (Some run.1)) in
    let next : Runs h.at (word ∷ rest) (state [] run.0 (Some run.1)) = subst P is run.2 in
    bad next.0 next.1

-- a bad end
pub refuses_end : (words left : List (List ℕ)) (it : Reading) (e : LineError) (h : ReadTo words left it) → left ≡ [] → RefusesEnd h.at e → RefusesGuard words e
refuses_end words left it (Exhausted x) h is bad = tt
refuses_end words left it Bad h is bad = λ g guards.
    let run = guard_rest words left it h g guards in
    let P : List (List ℕ) → Type 0 = λ ws. Runs h.at ws (state [] run.0 (Some run.1)) in
    bad run.0 run.1 (subst P is run.2)

pub IfErr-is : {T E : Type 0} (r : Result T E) (e : E) (P : E → Type 0) → r ≡ Err e → P e → IfErr r P
IfErr-is {T} {E} r e P is h = let Q : Result T E → Type 0 = λ x. IfErr x P in subst Q (sym is) h
