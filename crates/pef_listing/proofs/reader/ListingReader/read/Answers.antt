-- The next bytes are the front of the text that is left.
use Rattle.std.proofs.Common.{◌≡◌, ◌++◌, ◌∙◌, ℕ, List, ap, ap₂, drop, length, length-drop, min, sym, take, refl, arith}
use Rattle.std.proofs.lemmas.List.{length-take-le}
use Rattle.pef_listing.specs.Left.{lines_left, text_left}
use Rattle.pef_listing.proofs.ReaderLemmas.{enough-waits, read-front, read-more}
use Rattle.pef_listing.proofs.reader.ListingReader.read.Goals as goal

pub returns-then-count-eq0 : goal.returns-then-count-eq0
returns-then-count-eq0 c =
    let n : ℕ = length c.args.buffer.now in
    let r = c.make.new.self in
    let waiting : List ℕ = drop r.read r.made.items in
    let len = length-drop r.read r.made.items in
    let is : c.split_at.result.1.now ≡ waiting = c.split_at.ensures.back ∙ ap (λ (xs : List ℕ). drop r.read xs) c.deref.ensures.value in
    let least : c.min-count.result ≡ min (length waiting) n = c.min-count.ensures ∙ ap (λ (xs : List ℕ). min (length xs) n) is in
    let front : take n (text_left c.args.self.now) ≡ take 0 waiting =
    ap (λ (xs : List ℕ). take n xs) (sym c.make.ensures.same) ∙ read-front waiting (lines_left r.lines) n 0 (sym c.if-count-eq0.true ∙ least) (enough-waits r n c.in_ok-make.ensures.enough) in
    rw front (refl, refl, c.make.ensures.same)

pub returns : goal.returns
returns c =
    let n : ℕ = length c.args.buffer.now in
    let count : ℕ = c.min-count.result in
    let r = c.make.new.self in
    let waiting : List ℕ = drop r.read r.made.items in
    let len = length-drop r.read r.made.items in
    let is : c.split_at.result.1.now ≡ waiting = c.split_at.ensures.back ∙ ap (λ (xs : List ℕ). drop r.read xs) c.deref.ensures.value in
    let least : c.min-count.result ≡ min (length waiting) n = c.min-count.ensures ∙ ap (λ (xs : List ℕ). min (length xs) n) is in
    let front : take n (text_left c.args.self.now) ≡ take count waiting =
    ap (λ (xs : List ℕ). take n xs) (sym c.make.ensures.same) ∙ read-front waiting (lines_left r.lines) n count least (enough-waits r n c.in_ok-make.ensures.enough) in
    rw front (
      sym (length-take-le count waiting (omega (arith, len, least))),
      ap₂ (λ (xs ys : List ℕ). xs ++ ys) (c.copy_from_slice.ensures.after ∙ c.split_at-2.ensures.front ∙ ap (λ (xs : List ℕ). take count xs) is) c.split_at_mut-front.ensures.back,
      read-more r.made.items (lines_left r.lines) r.read count (omega (arith, len, least)) ∙ ap (λ (xs : List ℕ). drop count xs) c.make.ensures.same,
    )
