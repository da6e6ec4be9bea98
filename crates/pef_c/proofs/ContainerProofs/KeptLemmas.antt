-- What a sink of findings keeps is known from what it took.
use Rattle.std.proofs.Common.{◌≡◌, ℕ, Bool, true, false, List, [], ◌∷◌, ◌++◌, length, refl, ap, ap₂, ◌∙◌, arith, append_assoc}
use Rattle.std.specs.Option.{unwrap_or}
use Rattle.pef_inspect.specs.declared.finding.Finding.{Finding}
use Rattle.pef_c.specs.Containers.Kept.{flag, kept, numbers, places_kept}
use Rattle.pef_records.specs.declared.structs.PefFinding.{PefFinding}

first_is : (a b c d e f : ℕ) → numbers a b c ≡ numbers d e f → a ≡ d
first_is a b c d e f is = ap (λ (n : Finding). n.place.row) is

second_is : (a b c d e f : ℕ) → numbers a b c ≡ numbers d e f → b ≡ e
second_is a b c d e f is = ap (λ (n : Finding). n.place.field) is

third_is : (a b c d e f : ℕ) → numbers a b c ≡ numbers d e f → c ≡ f
third_is a b c d e f is = ap (λ (n : Finding). unwrap_or n.place.offset 0) is

flag_is : (x y : Bool) → flag x ≡ flag y → x ≡ y
flag_is true true is = refl
flag_is false false is = refl
flag_is true false is =
    let one = first_is 1 0 0 0 0 0 is in
    absurd (omega (arith, one))
flag_is false true is =
    let one = first_is 0 0 0 1 0 0 is in
    absurd (omega (arith, one))

-- the places before, and what follows them
places_are : (old old' : List PefFinding) (xs ys : List Finding) → length old ≡ length old' → places_kept old ++ xs ≡ places_kept old' ++ ys → (old ≡ old') × (xs ≡ ys)
places_are [] [] xs ys len is = (refl, is)
places_are [] (q ∷ qs) xs ys len is = absurd (omega (arith, len))
places_are (p ∷ ps) [] xs ys len is = absurd (omega (arith, len))
places_are (p ∷ ps) (q ∷ qs) xs ys len is =
    let place : numbers p.place.part p.place.row p.place.field ≡ numbers q.place.part q.place.row q.place.field = cc is in
    let number : numbers p.place.offset p.detail p.number ≡ numbers q.place.offset q.detail q.number = cc is in
    let error : flag p.is_error ≡ flag q.is_error = cc is in
    let kind : numbers p.detail_kind 0 0 ≡ numbers q.detail_kind 0 0 = cc is in
    let rest = places_are ps qs xs ys (omega (arith, len)) (cc is) in
    let part = first_is _ _ _ _ _ _ place in
    let row = second_is _ _ _ _ _ _ place in
    let field = third_is _ _ _ _ _ _ place in
    let offset = first_is _ _ _ _ _ _ number in
    let detail = second_is _ _ _ _ _ _ number in
    let code = third_is _ _ _ _ _ _ number in
    let detail_kind = first_is _ _ _ _ _ _ kind in
    let same : p ≡ q = (λ i. record { place = record { part = part i; row = row i; field = field i; offset = offset i }; detail = detail i; number = code i; is_error = flag_is p.is_error q.is_error error i; detail_kind = detail_kind i }) in
    (ap₂ (λ (y : _) (zs : List _). y ∷ zs) same rest.0, rest.1)

-- two sinks that took the same
pub record Same (name name' from from' : ℕ) (old old' : List PefFinding) (xs ys : List Finding) : Type 0 where
  pub name_is : name ≡ name'
  pub from_is : from ≡ from'
  pub old_is : old ≡ old'
  pub items_are : xs ≡ ys

same_kept : (name name' from from' : ℕ) (old old' : List PefFinding) (xs ys : List Finding) → kept name from old ++ xs ≡ kept name' from' old' ++ ys → Same name name' from from' old old' xs ys
unfolding kept
same_kept name name' from from' old old' xs ys is =
    let head : numbers name from (length old) ≡ numbers name' from' (length old') = cc is in
    let rest = places_are old old' xs ys (third_is _ _ _ _ _ _ head) (cc is) in
    record { name_is = first_is _ _ _ _ _ _ head; from_is = second_is _ _ _ _ _ _ head; old_is = rest.0; items_are = rest.1 }

-- a sink that took some findings more
pub took : (name name' from from' : ℕ) (old old' : List PefFinding) (xs xs' more : List Finding)
    → kept name' from' old' ++ xs' ≡ (kept name from old ++ xs) ++ more → Same name' name from' from old' old xs' (xs ++ more)
took name name' from from' old old' xs xs' more is =
    same_kept name' name from' from old' old xs' (xs ++ more) (is ∙ append_assoc (kept name from old) xs more)

-- .. and then others
pub took_more : (name name' from from' : ℕ) (old old' : List PefFinding) (xs xs' : List Finding) (taken some others : List Finding)
    → taken ≡ (kept name from old ++ xs) ++ some → kept name' from' old' ++ xs' ≡ taken ++ others → Same name' name from' from old' old xs' (xs ++ (some ++ others))
took_more name name' from from' old old' xs xs' taken some others first then =
    took name name' from from' old old' xs xs' (some ++ others) (then ∙ ap (λ (t : List Finding). t ++ others) first ∙ append_assoc (kept name from old ++ xs) some others)
