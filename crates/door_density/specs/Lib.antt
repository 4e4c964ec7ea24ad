pub mod DensityDoor
