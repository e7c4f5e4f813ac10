pub mod ThirdLaws
