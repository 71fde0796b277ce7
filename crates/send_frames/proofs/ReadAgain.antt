-- Up to 64 of the orders made, in a row, are read by Ask 6 as they were made: a list that is made of orders is taken apart into them, and
-- the sender takes each.
use mathlib.Core.Path.{◌≡◌, refl, ap, subst, ◌∙◌}
use mathlib.Core.Bool.{Bool}
use mathlib.Core.List.{List, [], ◌∷◌, ◌++◌, map}
use Prim.Native.Nat.{ℕ}
use Rattle.send_order.specs.Order.{Order}
use Rattle.send_setup.specs.Form.{ListedOrder, order_with, list_bytes, listed_of}
use Rattle.send_setup.specs.Calls.{most_orders, orders_of, first_bad}
use Rattle.send_setup.proofs.Form.{list_back}
use Rattle.send_frames.specs.Fewest.{AllFrames, FramesRead}
use Rattle.send_frames.proofs.Writes.{frames_made}

module _ (up : Bool) (settings : ℕ) where
  abbrev made : List ListedOrder → List Order
  made xs = map (order_with settings) xs

  -- of orders in a row, those after some, and those before others
  later : (before xs : List ListedOrder) → AllFrames up (made (before ++ xs)) → AllFrames up (made xs)
  unfolding AllFrames
  later [] xs h = h
  later (x ∷ before) xs h = later before xs h.1

  earlier : (xs after : List ListedOrder) → AllFrames up (made (xs ++ after)) → AllFrames up (made xs)
  unfolding AllFrames
  earlier [] after h = tt
  earlier (x ∷ xs) after h = (h.0, earlier xs after h.1)

  all_accepted : (xs : List ListedOrder) → AllFrames up (made xs) → first_bad (made xs) ≡ 0
  unfolding AllFrames first_bad
  all_accepted [] h = refl
  all_accepted (x ∷ xs) h = rw h.0.accepted (all_accepted xs h.1)

pub frames_read : FramesRead
unfolding orders_of
frames_read up settings addresses bytes before xs after good streams split few =
    let frames = (frames_made up settings addresses bytes good streams).writes.frames in
    let mine =
    earlier up settings xs after
    (later up settings before (xs ++ after) (subst (λ (l : List ListedOrder). AllFrames up (made up settings l)) split frames)) in
    let back = list_back most_orders xs few in
    let same : made up settings (listed_of most_orders (list_bytes xs)) ≡ made up settings xs = ap (made up settings) back.1 in
    record { good = back.0; same = same; none_bad = ap first_bad same ∙ all_accepted up settings xs mine }
