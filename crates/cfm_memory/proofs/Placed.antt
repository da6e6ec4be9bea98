-- The invariant of a memory after an instance is placed, removed or written to.
use Rattle.std.proofs.Common.{◌≡◌, ℕ, ◌+◌, ◌≤◌, List, length, subst, sym, arith}
use Rattle.std.specs.BTreeMap.{insert_entry}
use Rattle.std.specs.Global.{Vec}
use Rattle.std.specs.Ordering.{nat_cmp}
use Rattle.cfm_memory.specs.Limits.{first_address}
use Rattle.cfm_memory.specs.Instances.{Instance, Layout, with_bytes, with_instance, without}
use Rattle.cfm_memory.specs.Placement.{taken, IsClear, IsFree, IsRoom}
use Rattle.cfm_memory.specs.declared.hints.Hint.{Hint}
use Rattle.cfm_memory.specs.declared.place.Reserved.{Reserved}
use Rattle.cfm_memory.specs.Kept.Searches.{AreLowered, IsKept}
use Rattle.cfm_memory.proofs.Changes.{clear_with, clear_without, clear_written, laid_out_with, laid_out_without, laid_out_written}
use Rattle.cfm_memory.proofs.Contents.{nothing_at_free}
use Rattle.cfm_memory.proofs.Entries.{inserted_is, instances}
use Rattle.cfm_memory.proofs.Fronts.{free_below, free_unwritten, free_without_new}
use Rattle.cfm_memory.proofs.Remembered.{hints_lowered, hints_stay}
use Rattle.cfm_memory.proofs.Placing.{some_taken}

-- an address that has room has it among the instances that the code keeps
room_seen : (g : ℕ) (m : Layout) (limit size alignment address : ℕ) (xs : List Instance) (rs : List Reserved) → record { granule = g; limit = limit; instances = xs; reserved = rs } ≡ m → IsRoom m size alignment address
    → IsRoom (record { granule = g; limit = limit; instances = xs; reserved = rs }) size alignment address
room_seen g m limit size alignment address xs rs view_is room =
    let P : Layout → Type 0 = λ k. IsRoom k size alignment address in
    subst P (sym view_is) room

pub placed_kept : (g : ℕ) (m : Layout) (limit : ℕ) (hints : List Hint) (size alignment address : ℕ) (bytes : List ℕ) (xs : List Instance) (rs : List Reserved) → record { granule = g; limit = limit; instances = xs; reserved = rs } ≡ m → length bytes ≡ size
    → IsRoom m size alignment address → IsKept g limit xs rs hints → IsKept g limit (with_instance xs (record { address = address; bytes = bytes })) rs hints
placed_kept g m limit hints size alignment address bytes xs rs view_is size_is has_room kept =
    let room = room_seen g m limit size alignment address xs rs view_is has_room in
    let Q : ℕ → Type 0 = λ n. (address + taken g n ≤ limit) × IsFree g address (address + taken g n) xs × IsClear address (address + taken g n) rs in
    let there = subst Q (sym size_is) (room.inside, room.free, room.clear) in
    record {
      laid_out = laid_out_with g first_address limit xs (record { address = address; bytes = bytes }) room.from there.0 there.1 kept.laid_out;
      in_turn = kept.in_turn;
      clear = clear_with g xs rs (record { address = address; bytes = bytes }) there.2 kept.clear;
      are_hints = hints_stay g xs (with_instance xs (record { address = address; bytes = bytes })) rs rs hints (λ from to free. free_without_new g from to xs (record { address = address; bytes = bytes }) free) (λ from to clear. clear) kept.are_hints;
      small = kept.small;
    }

-- the map with a new entry has a new instance
pub placed_is : (g : ℕ) (m : Layout) (limit size alignment address : ℕ) (v : Vec ℕ) (es : List (ℕ × Vec ℕ)) (rs : List Reserved) → record { granule = g; limit = limit; instances = instances es; reserved = rs } ≡ m → IsRoom m size alignment address
    → instances (insert_entry nat_cmp es address v) ≡ with_instance (instances es) (record { address = address; bytes = v.items })
placed_is g m limit size alignment address v es rs view_is has_room =
    let room = room_seen g m limit size alignment address (instances es) rs view_is has_room in
    let some = some_taken g size in
    inserted_is es address v (nothing_at_free g (instances es) address (address + taken g size) (omega (arith, some)) room.free)

pub given_back_kept : (g limit address : ℕ) (hints lower : List Hint) (xs : List Instance) (rs : List Reserved) → length lower ≡ length hints → AreLowered address hints lower → IsKept g limit xs rs hints → IsKept g limit (without xs address) rs lower
given_back_kept g limit address hints lower xs rs same are_lowered kept = record {
  laid_out = laid_out_without g first_address limit xs address kept.laid_out;
  in_turn = kept.in_turn;
  clear = clear_without g xs rs address kept.clear;
  are_hints = hints_lowered g address xs (without xs address) rs rs hints lower same are_lowered (λ other end ends free. free_below g xs other end address ends free) (λ other end ends clear. clear) kept.are_hints;
  small = kept.small;
}

pub written_kept : (g limit : ℕ) (hints : List Hint) (address : ℕ) (w : List ℕ) (xs : List Instance) (rs : List Reserved) → IsKept g limit xs rs hints → IsKept g limit (with_bytes xs address w) rs hints
written_kept g limit hints address w xs rs kept = record {
  laid_out = laid_out_written g first_address limit xs address w kept.laid_out;
  in_turn = kept.in_turn;
  clear = clear_written g xs rs address w kept.clear;
  are_hints = hints_stay g xs (with_bytes xs address w) rs rs hints (λ from to free. free_unwritten g from to address w xs free) (λ from to clear. clear) kept.are_hints;
  small = kept.small;
}
