-- How sends add up: text after text, and text that is sent piece by piece.
use Rattle.std.proofs.Common.{◌≡◌, ℕ, List, [], ◌++◌, Option, None, Some, Result, Ok, Err, IsErrAnd, OnOk, length, take, refl, sym, ap, ◌∙◌, subst, append_assoc}
use Rattle.std.proofs.Math.Seq.{take-append_seam}
use Rattle.std.proofs.lemmas.List.{append-nil}
use Rattle.std.proofs.lemmas.Result.{err_from_is_err_and}
use Rattle.pef_ports.specs.Ports.{Stream, Grows, LastFailed, NoneFailed, one_more}
use Rattle.pef_ports.specs.Sent.{Prints, Sends, StopsShort}

-- bytes that were written after others
pub Grows-then : (a b c : Option (List ℕ)) (x y : List ℕ) → Grows a b x → Grows b c y → Grows a c (x ++ y)
Grows-then None b c x y p q = tt
Grows-then (Some w) b c x y p q =
    let P : Option (List ℕ) → Type 0 = λ o. Grows o c y in
    subst P p q ∙ ap Some (append_assoc w x y)

-- if nothing is sent, nothing is written
Grows-none : (a : Option (List ℕ)) → Grows a a []
Grows-none None = tt
Grows-none (Some w) = ap Some (sym (append-nil w))

-- a call that fails after others that didn't
pub Failed-later : {a b c : Stream} → NoneFailed a b → LastFailed b c → LastFailed a c
Failed-later {a} {b} {c} sound failed = record { one = failed.one ∙ ap one_more sound; last = failed.last }

-- text after text
pub Prints-then : {a b c : Stream} {p l m t u : List ℕ} → Prints a b p l t → Prints b c l m u → Prints a c p m (t ++ u)
Prints-then {a} {b} {c} {p} {l} {m} {t} {u} first second = record {
  sent = first.sent ++ second.sent;
  out = Grows-then a.bytes b.bytes c.bytes first.sent second.sent first.out second.out;
  whole = append_assoc first.sent second.sent m ∙ ap (λ (z : List ℕ). first.sent ++ z) second.whole ∙ sym (append_assoc first.sent l u) ∙ ap (λ (z : List ℕ). z ++ u) first.whole ∙ append_assoc p t u;
  sound = second.sound ∙ first.sound;
}

-- before the first text
Prints-none : (a : Stream) (p : List ℕ) → Prints a a p p []
Prints-none a p = record { sent = []; out = Grows-none a.bytes; whole = sym (append-nil p); sound = refl }

-- an output that stopped short of a text stops short of a longer one
pub StopsShort-longer : {a b : Stream} {p t : List ℕ} (u : List ℕ) → StopsShort a b p t → StopsShort a b p (t ++ u)
StopsShort-longer {a} {b} {p} {t} u short = record {
  sent = short.sent;
  left = short.left ++ u;
  out = short.out;
  whole = sym (append_assoc short.sent short.left u) ∙ ap (λ (z : List ℕ). z ++ u) short.whole ∙ append_assoc p t u;
  failed = short.failed;
}

-- an output that stopped short after a text
pub StopsShort-then : {a b c : Stream} {p l t u : List ℕ} → Prints a b p l t → StopsShort b c l u → StopsShort a c p (t ++ u)
StopsShort-then {a} {b} {c} {p} {l} {t} {u} first short = record {
  sent = first.sent ++ short.sent;
  left = short.left;
  out = Grows-then a.bytes b.bytes c.bytes first.sent short.sent first.out short.out;
  whole = append_assoc first.sent short.sent short.left ∙ ap (λ (z : List ℕ). first.sent ++ z) short.whole ∙ sym (append_assoc first.sent l u) ∙ ap (λ (z : List ℕ). z ++ u) first.whole ∙ append_assoc p t u;
  failed = Failed-later first.sound short.failed;
}

-- a result that is an error stopped short
pub Sends-short : {A E : Type 0} {a b : Stream} {p t : List ℕ} (Q : E → Type 0) (r : Result A E) (q : List ℕ) → IsErrAnd r Q → StopsShort a b p t → Sends r a b p q t
Sends-short {A} {E} {a} {b} {p} {t} Q r q err short =
    let is = err_from_is_err_and r err in
    let P : Result A E → Type 0 = λ z. Sends z a b p q t in
    subst P (sym is.1) short

-- text after text, however the second one ends
pub Sends-then : {A E : Type 0} {a b : Stream} {p l t : List ℕ} (r : Result A E) (c : Stream) (q u : List ℕ) → Prints a b p l t → Sends r b c l q u → Sends r a c p q (t ++ u)
Sends-then (Ok x) c q u first second = Prints-then first second
Sends-then (Err e) c q u first second = StopsShort-then first second

-- the bytes written of a text that began a page are a prefix of it
pub StopsShort-front : {a b : Stream} {t : List ℕ} → StopsShort a b [] t → (k : ℕ) × Grows a.bytes b.bytes (take k t)
StopsShort-front {a} {b} {t} short =
    let P : List ℕ → Type 0 = λ (x : List ℕ). Grows a.bytes b.bytes x in
    (length short.sent, subst P (sym (ap (take (length short.sent)) (sym short.whole) ∙ take-append_seam short.sent short.left)) short.out)

-- if the page is empty after a text that was sent
pub Sends-empty : {A E : Type 0} (r : Result A E) (a b : Stream) (p q t : List ℕ) → OnOk r (q ≡ []) → Sends r a b p q t → Sends r a b p [] t
Sends-empty (Ok x) a b p q t empty sends =
    let P : List ℕ → Type 0 = λ (page : List ℕ). Prints a b p page t in
    subst P empty sends
Sends-empty (Err e) a b p q t empty sends = sends

-- a prefix of a text was sent, and the rest is still to be sent
pub record IsSentUpTo (before after : Stream) (page page' text rest : List ℕ) : Type 0 where
  pub front : List ℕ
  pub prints : Prints before after page page' front
  pub whole : front ++ rest ≡ text

-- before the first piece
pub sent-nothing : (a : Stream) (page text : List ℕ) → IsSentUpTo a a page page text text
sent-nothing a page text = record { front = []; prints = Prints-none a page; whole = refl }

-- the next piece
pub sent-piece : {a b c : Stream} {p l q piece text left : List ℕ} (rest : List ℕ) → IsSentUpTo a b p l text left → left ≡ piece ++ rest → Prints b c l q piece → IsSentUpTo a c p q text rest
sent-piece {a} {b} {c} {p} {l} {q} {piece} {text} {left} rest so_far is out = record {
  front = so_far.front ++ piece;
  prints = Prints-then so_far.prints out;
  whole = append_assoc so_far.front piece rest ∙ ap (λ (t : List ℕ). so_far.front ++ t) (sym is) ∙ so_far.whole;
}

-- the output fails at the next piece
pub sent-short : {a b c : Stream} {p l piece text left : List ℕ} (rest : List ℕ) → IsSentUpTo a b p l text left → left ≡ piece ++ rest → StopsShort b c l piece → StopsShort a c p text
sent-short {a} {b} {c} {p} {l} {piece} {text} {left} rest so_far is short =
    let P : List ℕ → Type 0 = λ (t : List ℕ). StopsShort a c p t in
    subst P (ap (λ (t : List ℕ). so_far.front ++ t) (sym is) ∙ so_far.whole) (StopsShort-then so_far.prints (StopsShort-longer rest short))

-- past the last piece
pub sent-all : {a b : Stream} {p l text left : List ℕ} → IsSentUpTo a b p l text left → left ≡ [] → Prints a b p l text
sent-all {a} {b} {p} {l} {text} {left} so_far none =
    let P : List ℕ → Type 0 = λ (t : List ℕ). Prints a b p l t in
    subst P (sym (append-nil so_far.front) ∙ ap (λ (t : List ℕ). so_far.front ++ t) (sym none) ∙ so_far.whole) so_far.prints

-- an output that reports its bytes had these before others were written
pub grown : (first kept sent : List ℕ) (a b : Option (List ℕ)) → a ≡ Some first → b ≡ Some kept → Grows a b sent → kept ≡ first ++ sent
grown first kept sent a b was is out =
    let P : Option (List ℕ) → Type 0 = λ o. Grows o (Some kept) sent in
    let Q : Option (List ℕ) → Type 0 = λ o. Grows a o sent in
    let grew : Some kept ≡ Some (first ++ sent) = subst P was (subst Q is out) in
    cc grew

-- it has all of a text that was sent, after those that it had
pub kept-all : (first kept text : List ℕ) {a b : Stream} → Prints a b [] [] text → a.bytes ≡ Some first → b.bytes ≡ Some kept → kept ≡ first ++ text
kept-all first kept text {a} {b} prints was is =
    grown first kept prints.sent a.bytes b.bytes was is prints.out ∙ ap (λ (t : List ℕ). first ++ t) (sym (append-nil prints.sent) ∙ prints.whole)

-- or a part of it
pub kept-part : (first kept page text : List ℕ) {a b : Stream} → StopsShort a b page text → a.bytes ≡ Some first → b.bytes ≡ Some kept → (sent : List ℕ) × (kept ≡ first ++ sent)
kept-part first kept page text {a} {b} short was is = (short.sent, grown first kept short.sent a.bytes b.bytes was is short.out)

-- an equal text
pub same_printed : {a b : Stream} {p l t u : List ℕ} → t ≡ u → Prints a b p l t → Prints a b p l u
same_printed {a} {b} {p} {l} {t} {u} same prints = subst (Prints a b p l) same prints

pub same_short : {a b : Stream} {p t u : List ℕ} → t ≡ u → StopsShort a b p t → StopsShort a b p u
same_short {a} {b} {p} {t} {u} same short = subst (StopsShort a b p) same short

pub same_sent : {A E : Type 0} (r : Result A E) (a b : Stream) (p l : List ℕ) {t u : List ℕ} → t ≡ u → Sends r a b p l t → Sends r a b p l u
same_sent {A} {E} r a b p l {t} {u} same sends = subst (Sends r a b p l) same sends
