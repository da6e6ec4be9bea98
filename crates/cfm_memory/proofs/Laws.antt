-- Facts of instances, as `specs/` defines them, for the proofs of other crates.

-- an instance takes at least its own bytes
pub use Rattle.cfm_memory.proofs.Placing.{within_taken}
-- an instance that was written to has the written bytes, and all others keep their bytes
pub use Rattle.cfm_memory.proofs.Contents.{written_here, written_other}
-- bytes written with the instance's length are unchanged
pub use Rattle.cfm_memory.proofs.Contents.{fitted_same}
-- the rule of placement for instances after others
pub use Rattle.cfm_memory.proofs.InTurn.{after-both, after-none}
-- instances that are placed in turn: one turn after another, how many there are, each has room
pub use Rattle.cfm_memory.proofs.InTurn.{placed-append, length-placed, place-room}
-- they are zeros, have the sizes that they need, lie apart, and all others stay
pub use Rattle.cfm_memory.proofs.InTurn.{no_extent, placed_stand, placed_size, placed_apart, placed_new, placed_stays}
-- no two of some places that are apart have the same address
pub use Rattle.cfm_memory.proofs.InTurn.{apart_both}
-- instances that are at the lengths of their places are held there
pub use Rattle.cfm_memory.proofs.InTurn.{stand_held, placed_held, one_held}
-- extents that take no more than the space below the limit find room in empty memory
pub use Rattle.cfm_memory.proofs.Rooms.{most_taken, all_find_room}
-- an instance may be removed before some places or after them
pub use Rattle.cfm_memory.proofs.GivenBack.{given_back_without}
-- new instances that are removed leave the earlier instances, whatever was written to them
pub use Rattle.cfm_memory.proofs.GivenBack.{one_given_back, placed_given_back, written_given_back}
-- and all others keep their bytes and are held
pub use Rattle.cfm_memory.proofs.GivenBack.{given_back_elsewhere, held_elsewhere, written_holds}
-- some extents find places, or one has none
pub use Rattle.cfm_memory.proofs.Found.{extents-found}
-- new instances with bytes that are given: they have these, all others stay, and are left when the new ones are removed
pub use Rattle.cfm_memory.proofs.Filled.{filled_elsewhere, filled_given_back, filled_next, filled_stand}
-- an image with zeros after it has the length that is given
pub use Rattle.cfm_memory.proofs.Filled.{length_filled}
-- memories that differ in the bytes of instances alone: the same places are free in them
pub use Rattle.cfm_memory.proofs.Shapes.{SameShape, filled_shape, shape_back, shape_lack, shape_place, shape_self, shape_with}
-- instances that are placed with bytes: their places are the same without them; they are apart, held, and leave the earlier ones
-- when they are removed
pub use Rattle.cfm_memory.proofs.Shapes.{with_apart, with_given_back, with_held, with_shape}
-- an instance meets no reserved range
pub use Rattle.cfm_memory.proofs.Changes.{part_clear}
