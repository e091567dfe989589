-- What a capture holds besides its tables: SCOPE 13.9, 13.10 and 27.8.
pub mod Either
pub mod Counting
pub mod Fitting
pub mod Internal
pub mod Pages
