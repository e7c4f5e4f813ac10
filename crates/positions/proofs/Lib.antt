pub mod DirectionsLaws
