-- Two stores that have the same fragments and bindings at the places of a closure's order have the same closure.
use Rattle.std.proofs.Common.{◌≡◌, ℕ, ◌<◌, ◌≤◌, List, length, Ok, ap, ◌∙◌, Contains}
use Rattle.pef_words.specs.Refusals.{unless}
use Rattle.pef_words.specs.Results.{◌>>=◌}
use Rattle.cfm_closure.specs.Closures.{Closed, closed_of, first_refused}
use Rattle.cfm_closure.specs.Initialization.{init_order_of}
use Rattle.cfm_closure.specs.Orders.{IsComplete}
use Rattle.cfm_store.specs.Stores.{Pair}
use Rattle.cfm_closure.specs.Targets.{target_of}
use Rattle.cfm_closure.specs.Walk.{order_of}
use Rattle.cfm_closure.proofs.ClosedLemmas.{closed-complete, is_closed}
use Rattle.cfm_closure.proofs.OrderFacts.{order-complete}
use Rattle.cfm_closure.proofs.SameInitLemmas.{init_order-same}
use Rattle.cfm_closure.proofs.SameLemmas.{AreSame, order_of-same}
use Rattle.cfm_closure.proofs.SameTargetLemmas.{first_refused-same, target_of-same}

module _ (pairs pairs' : List Pair) (root : ℕ) (c : Closed) (inside : root < length pairs) (more : length pairs ≤ length pairs') (is : closed_of pairs root ≡ Ok c) (same : AreSame pairs pairs' c.order) where
  walked : order_of pairs' root ≡ Ok c.order
  walked = order_of-same pairs pairs' root c.order inside more (is_closed pairs root c is).order same

  complete' : IsComplete pairs' c.order
  complete' = order-complete pairs' root c.order walked

  pub target-same : (p j : ℕ) → Contains c.order p → target_of pairs' p j ≡ target_of pairs p j
  target-same = target_of-same pairs pairs' c.order (closed-complete pairs root c is) same complete'

  pub closed-same : closed_of pairs' root ≡ Ok (record c { pairs = pairs' })
  unfolding closed_of
  closed-same =
      let parts = is_closed pairs root c is in
      let complete = closed-complete pairs root c is in
      ap (λ r. r >>= (λ order. unless (first_refused pairs' order) (init_order_of pairs' order >>= (λ init_order. Ok (with_orders order init_order))))) walked
      ∙ ap (λ o. unless o (init_order_of pairs' c.order >>= (λ init_order. Ok (with_orders c.order init_order)))) (first_refused-same pairs pairs' c.order complete same complete' c.order (λ q there. there) ∙ parts.passes)
      ∙ ap (λ r. r >>= (λ init_order. Ok (with_orders c.order init_order))) (init_order-same pairs pairs' c.order complete same c.init_order more parts.init_order)
    where
      with_orders : List ℕ → List ℕ → Closed
      with_orders order init_order = record { pairs = pairs'; order = order; init_order = init_order }
