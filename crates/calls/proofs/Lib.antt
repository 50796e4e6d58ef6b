pub mod MakingCode
